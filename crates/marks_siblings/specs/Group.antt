-- What is known of a group n whose words are worked out from the rows of its children. Definitions only.
use Rattle.std.specs.Prelude.{List, ℕ}
use Rattle.runs.specs.Plan.{Plan, Node, Child}
use Rattle.runs.specs.WellFormed.{WellFormed}
use Rattle.tables.specs.declared.Segment.{Segment}
use Rattle.tables.specs.Segments.{ChildrenOf}
use Rattle.marks_row.specs.Columns.{Right}

-- the rows of the children of n are right
abbrev pub ChildrenRight : Plan → List ℕ → ℕ → Type 0
ChildrenRight p rows n = (c : ℕ) → Child p n c → Right p rows c

-- n is a node, the segment has its children, and their rows are right
pub record Group (kids : List ℕ) (segment : Segment) (rows : List ℕ) (p : Plan) (n : ℕ) : Type 0 where
  pub well_formed : WellFormed p
  pub node : Node p n
  pub listed : ChildrenOf kids segment p n
  pub children : ChildrenRight p rows n
