-- `run_conditions::with_literals` meets its contract. Assumes nothing.
use mathlib.Core.Path.{◌≡◌}
use Rattle.plan_format.specs.Format.{cond_count}
use Rattle.run_state.specs.Made.{literals}
use Rattle.node_sets.specs.Sets.{marked}
use Rattle.run_conditions.proofs.with_literals.Given as goal

abbrev pub invariant-loop-i : goal.invariant-loop-i
invariant-loop-i l = literals l.plan l.place (marked l.tasks) (cond_count l.plan) l.initial.next.bytes
    ≡ literals l.plan l.place (marked l.tasks) l.i l.next.bytes
