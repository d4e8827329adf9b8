-- The tests of single conditions behind refusals 21, 22 and 26.
use Rattle.std.specs.Prelude.{ℕ, Bool, cond, not, ◌&&◌, List, eqb}
use Rattle.plan_codes.specs.Values.{flag_of, place_of}
use Rattle.run_flags.specs.Flags.{flag_in}
use Rattle.plan_format.specs.Format.{cond_node, cond_value}
use Rattle.runs.specs.Tests.{same_b}
use Rattle.run_starts.specs.Starts.{node_byte}
use Rattle.run_state.specs.Made.{is_of, set_at}

-- condition i is of a task of the set M, at place q, and the flags do not meet it
unfoldable pub unmet_at : List ℕ → ℕ → (ℕ → Bool) → List ℕ → ℕ → Bool
unmet_at b q M bytes i = is_of b q M i && not (same_b (set_at b i) (flag_in bytes (flag_of (cond_value b i))))

-- condition i is an incondition of a running task that is not of the set M, and its sign is not kept by an event
-- after which flags that were all clear are `clear` and flags that were all set are `set`
unfoldable pub broken_at : List ℕ → List ℕ → List ℕ → List ℕ → (ℕ → Bool) → ℕ → Bool
broken_at b s clear set M i =
    eqb (place_of (cond_value b i)) 1 && not (M (cond_node b i)) && eqb (node_byte s (cond_node b i)) 1
    && not (same_b (set_at b i) (flag_in (cond (set_at b i) set clear) (flag_of (cond_value b i))))
