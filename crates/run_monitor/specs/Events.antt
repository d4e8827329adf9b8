-- What `start`, `finish`, `skip` and `finish_together` return and leave, in terms of the states that 01 works out.
-- Definitions only.
use Rattle.std.specs.Prelude.{ℕ, ◌+◌, ◌*◌, ◌≤◌, ◌≡◌, ◌≢◌, List, length, get_or}
use Rattle.plan_format.specs.Format.{node_count}
use Rattle.plan_check.specs.Meaning.{plan_of}
use Rattle.plan_blocked.specs.Blocked.{plan_under}
use Rattle.runs.specs.Calls.{Call, Answered}
use Rattle.run_state.specs.State.{world_of, state_refusal_under}
use Rattle.run_monitor.specs.Model.{call_return, call_state}

-- what `start`, `finish`, `skip` and `finish_together` return with the list xs of blocked nodes, and the bytes that
-- they leave
pub record Called (b xs s : List ℕ) (c : Call) (r : ℕ) (s' : List ℕ) : Type 0 where
  pub returns : r ≡ call_return b xs s c
  pub leaves : s' ≡ call_state b xs s c
  -- the checks up to 16 come first; a refused call leaves every byte as it was
  pub refused : state_refusal_under b xs s ≢ 0 → r ≡ state_refusal_under b xs s
  pub unchanged : r ≢ 0 → s' ≡ s
  -- on a state that passes the checks up to 16, in the words of 01 and 02: no refusal applies, 0, and the events
  -- happen; or the first that applies, and nothing does. The state then passes these checks again
  pub answered : state_refusal_under b xs s ≡ 0
      → Answered (plan_of b) (plan_under b xs) (world_of b s) c r (world_of b s')
  pub well_formed : state_refusal_under b xs s ≡ 0 → state_refusal_under b xs s' ≡ 0
  -- nothing is written past the 8 + 3N bytes that show the states
  pub as_long : length s' ≡ length s
  pub later : (i : ℕ) → 8 + 3 * node_count b ≤ i → get_or s' i 0 ≡ get_or s i 0
