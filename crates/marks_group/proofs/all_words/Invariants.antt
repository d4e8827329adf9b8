-- `all_words` meets its contract: the words are those of the children up to i. Assumes nothing.
use Prim.Native.Nat.{ℕ}
use Rattle.runs.specs.Plan.{Plan}
use Rattle.tables.specs.Represents.{RepresentsOrder}
use Rattle.marks_siblings.specs.Group.{Group}
use Rattle.marks_group.proofs.Merge.{AllWords}
use Rattle.marks_group.proofs.all_words.Given as goal

abbrev pub invariant-loop-i : goal.invariant-loop-i
invariant-loop-i l =
    (p : Plan) (n : ℕ) (g : Group l.kids l.segment l.rows p n) → RepresentsOrder l.order p → AllWords g l.i l.words
