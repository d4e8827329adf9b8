-- `run_conditions::is_of` meets its contract. Assumes nothing.
use mathlib.Core.Path.{◌≡◌, ◌∙◌}
use borrow.Author.Tests.{ne_eqb}
use Rattle.plan_format.specs.Format.{cond_node}
use Rattle.plan_check.proofs.Accepted.{clean}
use Rattle.run_state.specs.Made.{is_of}
use Rattle.node_sets.specs.Sets.{marked}
use Rattle.run_conditions.proofs.Conditions.{on_task}
use native.Mathlib.Omega.{arith}
use Rattle.run_conditions.proofs.is_of.Goals as goal
use Rattle.run_conditions.proofs.is_of.Goals.{After-from-node}

pub condition_node-requires : goal.condition_node-requires
condition_node-requires c = (c.requires.0, (clean _ c.requires.1).fits)

-- the node of the condition
node_is : (c : After-from-node) → c.from-node.result ≡ cond_node c.args.plan.now c.args.i
node_is c = c.from-node.ensures ∙ c.condition_node.ensures

pub bounds-tasks-node : goal.bounds-tasks-node
bounds-tasks-node c =
    omega (
      arith,
      node_is (goal.at.bounds-tasks-node c).After-from-node,
      (on_task _ c.requires.1 c.args.i c.requires.0).0,
      (clean _ c.requires.1).fits.limits.nodes,
    )

pub returns-then-tasks-node-eq1 : goal.returns-then-tasks-node-eq1
unfolding is_of marked
returns-then-tasks-node-eq1 c =
    c.is_at.ensures
    ∙ rw (← node_is (goal.at.returns-then-tasks-node-eq1 c).After-from-node, c.if-tasks-node-eq1.true)

pub returns-else-tasks-node-eq1 : goal.returns-else-tasks-node-eq1
unfolding is_of marked
returns-else-tasks-node-eq1 c =
    rw (← node_is (goal.at.returns-else-tasks-node-eq1 c).After-from-node, ne_eqb _ 1 c.if-tasks-node-eq1.false)
