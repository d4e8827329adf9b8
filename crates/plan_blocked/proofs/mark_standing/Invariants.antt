-- `plan_blocked::mark_standing` meets its contract. Assumes nothing.
use Prim.Native.Nat.{◌≤◌}
use Rattle.node_sets.specs.Sets.{marked}
use Rattle.plan_format.specs.Format.{node_count}
use Rattle.plan_blocked.proofs.Standing.{Stood}
use Rattle.plan_blocked.proofs.Branches.{Partly}
use Rattle.plan_blocked.proofs.mark_standing.Given as goal

abbrev pub invariant-loop-c : goal.invariant-loop-c
invariant-loop-c l = (1 ≤ l.c) × ((l.c ≤ node_count l.plan)
    × (Stood l.plan (marked l.blocked) l.standing l.c × Partly l.plan (marked l.blocked) l.marks l.c))
