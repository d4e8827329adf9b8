-- `mark_members` meets its contract: the nodes below c are marked if they stand. Assumes nothing.
use Prim.Native.Nat.{◌≤◌}
use Rattle.plan_format.specs.Format.{node_count}
use Rattle.member_list.proofs.Standing.{Placed}
use Rattle.member_list.proofs.mark_members.Given as goal

abbrev pub invariant-loop-c : goal.invariant-loop-c
invariant-loop-c l = (1 ≤ l.c) × (l.c ≤ node_count l.plan) × Placed l.plan l.members l.standing l.c
