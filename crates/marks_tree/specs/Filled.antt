-- What the rows hold after a group has been worked out, and after all of the plan has. Definitions only.
use Rattle.std.specs.Prelude.{◌≡◌, ◌≢◌, List, ℕ, ◌<◌, length}
use Rattle.runs.specs.Plan.{Kind, task, Plan, Node}
use Rattle.runs.specs.WellFormed.{WellFormed}
use Rattle.tables.specs.Represents.{RepresentsKinds, RepresentsTree, RepresentsOrder, RepresentsConditions, Represents}
use Rattle.marks_row.specs.Columns.{Right, ROWS}
use Rattle.tables.specs.declared.Segment.{Segment}
use Rattle.tables.specs.Walks.{RightUnder, RightTo}

-- the rows of the tasks are right
abbrev pub TasksRight : Plan → List ℕ → Type 0
TasksRight p rows = (t : ℕ) → Node p t → p.tree.kind t ≡ task → Right p rows t

-- a plan that the tables represent, whose tasks' rows are right, and one of its nodes
pub record Given (kind from kids order rows : List ℕ) (n node : ℕ) (p : Plan) : Type 0 where
  pub well_formed : WellFormed p
  pub kinds : RepresentsKinds kind p
  pub tree : RepresentsTree from kids n p
  pub orders : RepresentsOrder order p
  pub is_node : Node p node
  pub tasks : TasksRight p rows

-- any kind
abbrev pub OfAny : Kind → Type 0
OfAny k = Unit {0}

-- for every such plan in which the node is of a kind in K: what was right is right, and so is the row of each node
-- under this one
pub record Filled (K : Kind → Type 0) (kind from kids order rows rows' : List ℕ) (n node : ℕ) : Type 0 where
  pub long : length rows' ≡ ROWS
  pub under : (p : Plan) → Given kind from kids order rows n node p → K (p.tree.kind node)
      → RightUnder p (Right p rows) (Right p rows') node

-- the children of the node at the positions before i are worked out, with all under them
pub record ChildrenTo (kind from kids order : List ℕ) (n node : ℕ) (segment : Segment) (rows rows' : List ℕ)
    (i : ℕ) : Type 0 where
  pub long : length rows' ≡ ROWS
  pub walked : (p : Plan) → Given kind from kids order rows n node p
      → RightTo p kids segment.start (Right p rows) (Right p rows') i

-- for every plan that the tables represent, the rows of the tasks
pub record TasksFilled (kind conds rows : List ℕ) (n : ℕ) : Type 0 where
  pub long : length rows ≡ ROWS
  pub right : (p : Plan) → WellFormed p → RepresentsKinds kind p → RepresentsConditions conds p → (t : ℕ) → t < n
      → Node p t → p.tree.kind t ≡ task
      → Right p rows t

-- for every plan that the tables represent, the rows of all its nodes
pub record AllFilled (kind from kids order conds rows : List ℕ) (n : ℕ) : Type 0 where
  pub long : length rows ≡ ROWS
  pub right : (p : Plan) → WellFormed p → Represents kind from kids order conds n p → (m : ℕ) → Node p m
      → Right p rows m

-- for every plan that the tables represent, the rows of all its nodes but the root
pub record BelowFilled (kind from kids order conds rows : List ℕ) (n : ℕ) : Type 0 where
  pub long : length rows ≡ ROWS
  pub right : (p : Plan) → WellFormed p → Represents kind from kids order conds n p → (m : ℕ) → Node p m → m ≢ 0
      → Right p rows m
