-- The meaning of a plan's bytes: the plan of `runs`, and the flags at the start. (Its minutes are `minutes_of`.)
use Rattle.std.specs.Prelude.{ℕ, ◌<◌, ◌≡◌, Bool, true, false, cond, ◌&&◌, List, eqb, ltb}
use Rattle.std.proofs.Math.Option.{Option, some, none}
use Rattle.plan_codes.specs.Values.{flag_of, sign_of, place_of}
use Rattle.plan_format.specs.Format.{node_count, cond_count, order_count, flag_count, parent_of, kind_of, cond_node}
use Rattle.plan_format.specs.Format.{cond_value, earlier_of, later_of, start_flag}
use Rattle.runs.specs.Searches.{any_below}
use Rattle.runs.specs.Plan.{Kind, task, all_of, any_of, optional, Place, Plan, place_number}

-- the kind of a number
unfoldable pub kind_at : ℕ → Kind
kind_at k = cond (eqb k 0) task (cond (eqb k 1) all_of (cond (eqb k 2) any_of optional))

-- condition i is of task t, at place p, on flag f, with sign s
unfoldable pub condition_is : List ℕ → ℕ → ℕ → ℕ → ℕ → ℕ → Bool
condition_is b p t f s i =
    (eqb (cond_node b i) t && eqb (place_of (cond_value b i)) p)
    && (eqb (flag_of (cond_value b i)) f && eqb (sign_of (cond_value b i)) s)

unfoldable pub has_condition : List ℕ → ℕ → ℕ → ℕ → ℕ → Bool
has_condition b p t f s = any_below (cond_count b) (condition_is b p t f s)

unfoldable pub sign_in : List ℕ → Place → ℕ → ℕ → Option Bool
sign_in b k t f = cond (has_condition b (place_number k) t f 1) (some true)
    (cond (has_condition b (place_number k) t f 0) (some false) none)

unfoldable pub order_is : List ℕ → ℕ → ℕ → ℕ → Bool
order_is b x y j = eqb (earlier_of b j) x && eqb (later_of b j) y

unfoldable pub has_order : List ℕ → ℕ → ℕ → Bool
has_order b x y = any_below (order_count b) (order_is b x y)

unfoldable pub plan_of : List ℕ → Plan
plan_of b =
    record {
      tree = record {
        size = node_count b;
        here = λ n. ltb n (node_count b);
        kind = λ n. kind_at (kind_of b n);
        parent = parent_of b;
      };
      conditions = record { flags = flag_count b; sign = sign_in b };
      order = has_order b;
    }

-- the flags at the start
unfoldable pub start_of : List ℕ → ℕ → Bool
start_of b f = ltb f (flag_count b) && start_flag b f

-- the pair (x, y) is among the orders of the bytes
pub record OrderPair (b : List ℕ) (x y : ℕ) : Type 0 where
  pub at : ℕ
  pub below : at < order_count b
  pub earlier : earlier_of b at ≡ x
  pub later : later_of b at ≡ y
