-- `tree_refused` meets its contract. Assumes nothing.
use mathlib.Core.Path.{◌≡◌, sym, ◌∙◌}
use Rattle.plan_check.specs.Meaning.{plan_of}
use Rattle.runs.specs.Model.Monitor.{order_open_b}
use Rattle.run_state.specs.State.{status_in}
use Rattle.run_state.proofs.Passed.{has_room, node_small}
use Rattle.run_enabled.proofs.Orders.{open_is}
use Rattle.run_refusals.proofs.Chains.{tree_absent, tree_19, tree_20, tree_none}
use Rattle.run_refusals.proofs.tree_refused.Goals as goal
use Rattle.run_refusals.proofs.tree_refused.Goals.{After-order_open}
use Rattle.run_refusals.proofs.tree_refused.Goals.{then-standing-node-ne1-via-then-standing-node-ne1}
use Rattle.run_refusals.proofs.tree_refused.Goals.{then-standing-node-ne1-via-else-standing-node-ne1+then-branch_begun}

opens : (c : After-order_open) → let a = c.args in
    c.order_open.result ≡ order_open_b (plan_of a.plan.now) (status_in a.plan.now a.state.now) a.node
opens c = c.order_open.ensures ∙ open_is _ _ c.requires.at_event.passed _ _
    c.path-marks.ensures.1

pub path-marks-requires : goal.path-marks-requires
path-marks-requires c = (c.requires.at_event.node, (has_room _ _ c.requires.at_event.passed).accepted)

pub returns-then-order_open : goal.returns-then-order_open
returns-then-order_open c = tree_20 _ _ _ _ c.if-standing-node-ne1.false
    (sym c.branch_begun.ensures ∙ c.if-branch_begun.false)
    (sym (opens (goal.at.returns-then-order_open c).After-order_open) ∙ c.if-order_open.true)

pub returns : goal.returns
returns c = tree_none _ _ _ _ c.if-standing-node-ne1.false (sym c.branch_begun.ensures ∙ c.if-branch_begun.false)
    (sym (opens (goal.at.returns c).After-order_open) ∙ c.if-order_open.false)

pub bounds-standing-node : goal.bounds-standing-node
bounds-standing-node c = node_small _ _ c.requires.at_event.passed _ c.requires.at_event.node

pub returns-then-standing-node-ne1 : goal.returns-then-standing-node-ne1
returns-then-standing-node-ne1 c = elim c.then-standing-node-ne1.branch [
  | then-standing-node-ne1-via-then-standing-node-ne1 w ↦ tree_absent _ _ _ _ w.if-standing-node-ne1.true
  | then-standing-node-ne1-via-else-standing-node-ne1+then-branch_begun w ↦ tree_19 _ _ _ _
      w.if-standing-node-ne1.false (sym w.branch_begun.ensures ∙ w.if-branch_begun.true)
]
