-- A list of start, finish, skip and finish-together calls on one plan, all with one list xs of blocked nodes, by the
-- relation that the calls promise.
use Rattle.std.specs.Prelude.{ℕ, List, [], ◌∷◌}
use Rattle.runs.specs.Calls.{Call}
use Rattle.run_state.specs.Fresh.{Freshened}
use Rattle.run_monitor.specs.Events.{Called}

-- from the state s, each call gets the state as the last one left it: the calls, what they return, and the state after
-- them
pub data Calls (b xs : List ℕ) : List ℕ → List Call → List ℕ → List ℕ → Type 0 where
  no_calls : {s : List ℕ} → Calls b xs s [] [] s
  next_call : {s s' z : List ℕ} {c : Call} {cs : List Call} {r : ℕ} {rs : List ℕ} → Called b xs s c r s'
      → Calls b xs s' cs rs z → Calls b xs s (c ∷ cs) (r ∷ rs) z

-- a list begins with the state that fresh wrote into the bytes s
pub record ListMade (b xs s : List ℕ) (cs : List Call) (rs : List ℕ) (z : List ℕ) : Type 0 where
  pub at_first : List ℕ
  pub freshened : Freshened b xs s 0 at_first
  pub called : Calls b xs at_first cs rs z
