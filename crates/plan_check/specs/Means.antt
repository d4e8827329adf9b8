-- What `plan_of` comes to: the plan says what the bytes say, pair by pair. Definitions only.
use Rattle.std.specs.Prelude.{ℕ, ◌<◌, ◌≡◌, ◌↔◌, Bool, List, T}
use Rattle.std.proofs.Math.Option.{some}
use Rattle.plan_codes.specs.Values.{value_of}
use Rattle.plan_format.specs.Format.{node_count, cond_count, flag_count, parent_of, kind_of, cond_node, cond_value}
use Rattle.runs.specs.Plan.{Place, Plan, place_number, sign_number}
use Rattle.runs.specs.Numbers.{kind_number}
use Rattle.runs.specs.WellFormed.{Accepted}
use Rattle.plan_check.specs.Meaning.{OrderPair}

-- the pair (t, v) is among the conditions of the bytes
pub record ConditionPair (b : List ℕ) (t v : ℕ) : Type 0 where
  pub at : ℕ
  pub below : at < cond_count b
  pub node : cond_node b at ≡ t
  pub value : cond_value b at ≡ v

-- the plan says what the bytes say, no more and no less, and is one that the theory of runs takes
pub record Means (b : List ℕ) (p : Plan) : Type 0 where
  pub size : p.tree.size ≡ node_count b
  pub flags : p.conditions.flags ≡ flag_count b
  pub kind : (n : ℕ) → n < node_count b → kind_number (p.tree.kind n) ≡ kind_of b n
  pub parent : (n : ℕ) → n < node_count b → p.tree.parent n ≡ parent_of b n
  pub condition : (k : Place) (t f : ℕ) (v : Bool) → f < 64
      → p.conditions.sign k t f ≡ some v ↔ ConditionPair b t (value_of f (sign_number v) (place_number k))
  pub order : (x y : ℕ) → T (p.order x y) ↔ OrderPair b x y
  pub accepted : Accepted p
