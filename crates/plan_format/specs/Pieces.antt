-- What a plan's bytes have: each node's fields, and its conditions and orders as lists of pairs. Definitions only.
use Rattle.std.specs.Prelude.{◌≡◌, List, [], ◌∷◌, ℕ}
use Rattle.base.specs.Each.{each}
use Rattle.plan_format.specs.Format.{cond_count, order_count, name_of, parent_of, kind_of, minutes_of, cond_node}
use Rattle.plan_format.specs.Format.{cond_value, earlier_of, later_of}

module _ (b : List ℕ) where
  -- node n has this name, parent, kind and minutes
  pub record NodeIs (n : ℕ) (name : List ℕ) (parent kind minutes : ℕ) : Type 0 where
    pub its_name : name_of b n ≡ name
    pub its_parent : parent_of b n ≡ parent
    pub its_kind : kind_of b n ≡ kind
    pub its_minutes : minutes_of b n ≡ minutes

  -- node and value of each condition, and the nodes of each order
  abbrev pub condition_pairs : List (ℕ × ℕ)
  condition_pairs = each (λ i. (cond_node b i, cond_value b i) ∷ []) 0 (cond_count b)

  abbrev pub order_pairs : List (ℕ × ℕ)
  order_pairs = each (λ j. (earlier_of b j, later_of b j) ∷ []) 0 (order_count b)
