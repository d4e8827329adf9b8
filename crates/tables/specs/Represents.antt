-- Tables of a plan, as lists of numbers, and what it means that they represent a plan. Definitions only.
use Rattle.std.specs.Prelude.{◌≡◌, ◌↔◌, Bool, List, ℕ, ◌+◌, ◌*◌, ◌≤◌, ◌<◌, get_or}
use Rattle.std.proofs.Math.Option.{some}
use Rattle.base.specs.Words.{Says}
use Rattle.runs.specs.Plan.{task, Place, Plan, Node, Before, place_number, sign_number}
use Rattle.runs.specs.Numbers.{kind_number}
use Rattle.tables.specs.Sizes.{NODES, WORDS}
use Rattle.tables.specs.Segments.{segment_of, Position, ChildrenOf}

-- the word of a task's conditions at a place and with a sign
abbrev pub condition : List ℕ → ℕ → Place → Bool → ℕ
condition conds t k v = get_or conds (t * WORDS + (2 * place_number k + sign_number v)) 0

-- the codes of the table of orders; the code of a and b says that a stands before b, or after b
abbrev pub before_code : ℕ
before_code = 1

abbrev pub after_code : ℕ
after_code = 2

abbrev pub code : List ℕ → ℕ → ℕ → ℕ
code order a b = get_or order (a * NODES + b) 0

-- What the functions ask of the tables so that no index is out of range and each recursion ends: a node is a lower
-- number than its children.
pub record Shaped (from kids : List ℕ) (n : ℕ) : Type 0 where
  pub small : n ≤ NODES
  pub starts : (g : ℕ) → g < n → get_or from g 0 ≤ get_or from (g + 1) 0
  pub ends : (g : ℕ) → g < n → get_or from (g + 1) 0 ≤ NODES
  pub rises : (g i : ℕ) → g < n → Position (segment_of from g) i → (g < get_or kids i 0) × (get_or kids i 0 < n)

-- what is asked where a node is worked out: it is one of shaped tables
pub record AtGroup (from kids : List ℕ) (n node : ℕ) : Type 0 where
  pub shaped : Shaped from kids n
  pub below : node < n

pub record RepresentsKinds (kind : List ℕ) (p : Plan) : Type 0 where
  pub is : (i : ℕ) → Node p i → get_or kind i 0 ≡ kind_number (p.tree.kind i)

pub record RepresentsTree (from kids : List ℕ) (n : ℕ) (p : Plan) : Type 0 where
  pub size : p.tree.size ≡ n
  pub children : (g : ℕ) → Node p g → ChildrenOf kids (segment_of from g) p g

pub record RepresentsOrder (order : List ℕ) (p : Plan) : Type 0 where
  pub before : (a b : ℕ) → Node p a → Node p b → (code order a b ≡ before_code) ↔ Before p a b
  pub after : (a b : ℕ) → Node p a → Node p b → (code order a b ≡ after_code) ↔ Before p b a

-- bit f of a task's word says whether it has the literal at the place
pub record RepresentsConditions (conds : List ℕ) (p : Plan) : Type 0 where
  pub says : (t : ℕ) → Node p t → p.tree.kind t ≡ task → (k : Place) (v : Bool) (f : ℕ) → f < 64
      → Says (condition conds t k v) f (p.conditions.sign k t f ≡ some v)

pub record Represents (kind from kids order conds : List ℕ) (n : ℕ) (p : Plan) : Type 0 where
  pub kinds : RepresentsKinds kind p
  pub tree : RepresentsTree from kids n p
  pub orders : RepresentsOrder order p
  pub conditions : RepresentsConditions conds p
