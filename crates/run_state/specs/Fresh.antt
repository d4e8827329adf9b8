-- The state that `fresh` writes: the start flags of the plan, and zeros for each node and each ordinal; later bytes are
-- kept.
use Rattle.std.specs.Prelude.{ℕ, ◌+◌, ◌*◌, ◌≡◌, cond, List, get_or, eqb, ltb}
use Rattle.base.specs.Answers.{overlay}
use Rattle.plan_format.specs.Format.{node_count}
use Rattle.run_state.specs.State.{room_refusal_under}

unfoldable pub fresh_byte : List ℕ → ℕ → ℕ
fresh_byte b i = cond (ltb i 8) (get_or b (8 + i) 0) 0

-- the bytes after the call: as they were, if it is refused
unfoldable pub fresh_state : List ℕ → List ℕ → List ℕ → List ℕ
fresh_state b xs s = cond (eqb (room_refusal_under b xs s) 0) (overlay (fresh_byte b) (8 + 3 * node_count b) s) s

-- what `fresh` returns and the bytes that it leaves
pub record Freshened (b xs s : List ℕ) (r : ℕ) (s' : List ℕ) : Type 0 where
  pub returns : r ≡ room_refusal_under b xs s
  pub leaves : s' ≡ fresh_state b xs s
