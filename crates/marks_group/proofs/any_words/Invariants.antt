-- `any_words` meets its contract: the words are those of the children up to i. Assumes nothing.
use Prim.Native.Nat.{ℕ}
use Rattle.runs.specs.Plan.{Plan}
use Rattle.marks_siblings.specs.Group.{Group}
use Rattle.marks_group.proofs.Merge.{AnyWords}
use Rattle.marks_group.proofs.any_words.Given as goal

abbrev pub invariant-loop-i : goal.invariant-loop-i
invariant-loop-i l = (p : Plan) (n : ℕ) (g : Group l.kids l.fn.segment l.rows p n) → AnyWords g l.i l.words
