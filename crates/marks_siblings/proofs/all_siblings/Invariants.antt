-- `all_siblings` meets its contract: the words say of the siblings up to i. Assumes nothing.
use Prim.Native.Nat.{ℕ}
use Rattle.runs.specs.Plan.{Plan, Child}
use Rattle.tables.specs.Represents.{RepresentsOrder}
use Rattle.tables.specs.Segments.{Every}
use Rattle.marks_siblings.specs.Group.{Group}
use Rattle.marks_siblings.specs.Siblings.{SiblingWords}
use Rattle.marks_siblings.proofs.all_siblings.Given as goal

abbrev pub invariant-loop-i : goal.invariant-loop-i
invariant-loop-i l =
    (p : Plan) (n : ℕ) → Group l.kids l.fn.segment l.rows p n → RepresentsOrder l.order p → Child p n l.child
    → SiblingWords p l.child (Every l.kids l.fn.segment.start l.i) l.s
