-- Inner contracts: what is asked of plan and state; an ordinal written. Definitions only.
use Rattle.std.specs.Prelude.{ℕ, ◌+◌, ◌*◌, ◌/◌, ◌%◌, ◌≤◌, List, length, set}
use Rattle.plan_format.specs.Format.{node_count}
use Rattle.plan_format.specs.Whole.{Whole}
use Rattle.run_starts.specs.Starts.{ordinal_at}

-- what is asked where a state's bytes are read: the plan is whole, and there is room
pub record StateFits (b s : List ℕ) : Type 0 where
  pub plan : Whole b
  pub room : 8 + 3 * node_count b ≤ length s

-- the state with the ordinal k at node n
unfoldable pub with_ordinal : List ℕ → ℕ → ℕ → List ℕ → List ℕ
with_ordinal b n k s = set (set s (ordinal_at b n) (k % 256)) (ordinal_at b n + 1) (k / 256)
