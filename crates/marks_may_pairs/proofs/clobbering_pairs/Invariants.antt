-- `clobbering_pairs` meets its contract. Assumes nothing.
use Prim.Native.Nat.{◌+◌}
use Rattle.marks_may_pairs.proofs.Again.{Progress}
use Rattle.marks_may_pairs.proofs.clobbering_pairs.Given as goal

abbrev pub invariant-loop-next : goal.invariant-loop-next
invariant-loop-next l =
    Progress l.kids l.segment l.order l.rows l.initial.left l.left l.found l.cursor.child l.cursor.partner

abbrev pub decreases-loop-next : goal.decreases-loop-next
decreases-loop-next l = l.left.clear + l.left.set
