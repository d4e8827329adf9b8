-- `start_refused` meets its contract. Assumes nothing.
use mathlib.Core.Path.{◌≡◌, sym, ◌∙◌}
use Rattle.std.proofs.lemmas.Result.{err_from_is_err_and}
use Rattle.answers.proofs.Refusals.{some_number}
use Rattle.plan_check.specs.Meaning.{plan_of}
use Rattle.runs.specs.Execution.{start}
use Rattle.runs.specs.Model.Monitor.{pre_unmet_b}
use Rattle.run_state.specs.State.{flag_shown}
use Rattle.run_state.proofs.Passed.{has_room}
use Rattle.run_conditions.proofs.Refusals.{unmet_is}
use Rattle.node_sets.specs.Sets.{marked}
use Rattle.run_refusals.specs.Parts.{tree_refusal}
use Rattle.run_refusals.proofs.Chains.{begin_tree, begin_unmet}
use native.Mathlib.Omega.{arith}
use Rattle.run_refusals.proofs.start_refused.Goals as goal
use Rattle.run_refusals.proofs.start_refused.Goals.{After-unmet}

unmet : (c : After-unmet) → pre_unmet_b (plan_of c.args.plan.now)
    (flag_shown c.args.state.now) (start c.args.task) ≡ c.unmet.result
unmet c = sym (rw (c.load.ensures, c.mark_one-own.ensures) at c.unmet.ensures
    ∙ unmet_is _ _ c.requires.passed c.args.task)

none_yet : (c : After-unmet) → tree_refusal c.args.plan.now c.args.state.now
    c.args.task (marked c.args.standing.now c.args.task) ≡ 0
none_yet c = sym c.in_ok-tree_refused.ensures

pub returns-in_err-tree_refused : goal.returns-in_err-tree_refused
returns-in_err-tree_refused c =
    let p = err_from_is_err_and c.from_residual.result c.from_residual.ensures.1 in
    rw (p.1, p.2) (begin_tree _ _ _ _ _ c.in_err-tree_refused.ensures (some_number _))

pub mark_one-own-requires : goal.mark_one-own-requires
mark_one-own-requires c = omega (arith, c.requires.node, (has_room _ _ c.requires.passed).plan.fits.limits.nodes)

pub returns-then-unmet : goal.returns-then-unmet
returns-then-unmet c =
    let p = (goal.at.returns-then-unmet c).After-unmet in
    begin_unmet _ _ _ _ (none_yet p) _ (unmet p ∙ c.if-unmet.true)

pub returns-else-unmet : goal.returns-else-unmet
returns-else-unmet c =
    let p = (goal.at.returns-else-unmet c).After-unmet in
    begin_unmet _ _ _ _ (none_yet p) _ (unmet p ∙ c.if-unmet.false)

pub load-requires : goal.load-requires
load-requires c = omega (arith, (has_room _ _ c.requires.passed).room)

pub unmet-requires : goal.unmet-requires
unmet-requires c = (has_room _ _ c.requires.passed).accepted
