-- Two plans merged under a new root, in 02's words (112: "Pooling two books"). Definitions only.
use Rattle.std.specs.Prelude.{◌≡◌, List, [], ◌∷◌, ◌++◌, ℕ, zero, suc, ◌+◌, ◌<◌, max}
use Rattle.base.specs.Each.{each}
use Rattle.plan_format.specs.Format.{node_count, cond_count, order_count, flag_count, start_flag, name_of, parent_of}
use Rattle.plan_format.specs.Format.{kind_of}
use Rattle.plan_format.specs.Format.{minutes_of, cond_node, cond_value, earlier_of, later_of}
use Rattle.plan_format.specs.Pieces.{NodeIs, condition_pairs, order_pairs}
use Rattle.plan_rules.specs.Rules.{refusal}

-- HULL, in ASCII
abbrev pub hull_name : List ℕ
hull_name = 72 ∷ 85 ∷ 76 ∷ 76 ∷ []

-- "numbers shifted": what the plan b says of its nodes, s added to every node number
module _ (s : ℕ) (b : List ℕ) where
  -- the parent of node i; the old root goes under the new one
  abbrev pub shifted_parent : ℕ → ℕ
  shifted_parent zero = 0
  shifted_parent (suc i) = parent_of b (suc i) + s

  -- node i of b is node s + i of m
  abbrev pub NodeShifted : List ℕ → ℕ → Type 0
  NodeShifted m i = NodeIs m (s + i) (name_of b i) (shifted_parent i) (kind_of b i) (minutes_of b i)

  abbrev pub shifted_conditions : List (ℕ × ℕ)
  shifted_conditions = each (λ i. (cond_node b i + s, cond_value b i) ∷ []) 0 (cond_count b)

  abbrev pub shifted_orders : List (ℕ × ℕ)
  shifted_orders = each (λ j. (earlier_of b j + s, later_of b j + s) ∷ []) 0 (order_count b)

-- m is the plan merged from b and c
pub record IsMerged (b c m : List ℕ) : Type 0 where
  -- the book rules accept it; by 10 and 14 its conditions and its orders are "in rising order"
  pub passes : refusal m ≡ 0
  -- "a new all-of root HULL: its node, the first book's nodes, then the second's, numbers shifted"
  pub nodes : node_count m ≡ 1 + node_count b + node_count c
  pub root : NodeIs m 0 hull_name 255 1 0
  pub first_nodes : (i : ℕ) → i < node_count b → NodeShifted 1 b m i
  pub second_nodes : (i : ℕ) → i < node_count c → NodeShifted (1 + node_count b) c m i
  pub conditions : condition_pairs m ≡ shifted_conditions 1 b ++ shifted_conditions (1 + node_count b) c
  pub orders : order_pairs m ≡ shifted_orders 1 b ++ shifted_orders (1 + node_count b) c
  -- "Flags with the same number are the same flag; V is the larger, and a flag starts as in the book that has it"
  pub flags : flag_count m ≡ max (flag_count b) (flag_count c)
  pub starts_first : (f : ℕ) → f < flag_count b → start_flag m f ≡ start_flag b f
  pub starts_second : (f : ℕ) → f < flag_count c → start_flag m f ≡ start_flag c f
