-- The literals that the events of some tasks make true, in the bytes of the flags.
use Rattle.std.specs.Prelude.{ℕ, zero, suc, Bool, cond, ◌&&◌, List, eqb}
use Rattle.plan_codes.specs.Values.{flag_of, sign_of, place_of}
use Rattle.plan_format.specs.Format.{cond_count, cond_node, cond_value}
use Rattle.run_flags.specs.Inner.{with_flag}

-- condition i is of a task of the set M, at place q
unfoldable pub is_of : List ℕ → ℕ → (ℕ → Bool) → ℕ → Bool
is_of b q M i = M (cond_node b i) && eqb (place_of (cond_value b i)) q

-- the sign of condition i
unfoldable pub set_at : List ℕ → ℕ → Bool
set_at b i = eqb (sign_of (cond_value b i)) 1

-- the flags after the literals of the tasks of M at place q, among the first k conditions, the last of these first
unfoldable pub literals : List ℕ → ℕ → (ℕ → Bool) → ℕ → List ℕ → List ℕ
literals b q M zero bytes = bytes
literals b q M (suc k) bytes =
    literals b q M k (cond (is_of b q M k) (with_flag bytes (flag_of (cond_value b k)) (set_at b k)) bytes)

-- and among all
unfoldable pub made : List ℕ → ℕ → (ℕ → Bool) → List ℕ → List ℕ
made b q M bytes = literals b q M (cond_count b) bytes
