-- Inner contracts: what is asked of a state that has passed, and the checks by a table of the nodes that stand.
-- Definitions only.
use Rattle.std.specs.Prelude.{ℕ, ◌<◌, ◌≡◌, Bool, not, ◌&&◌, ◌||◌, List, [], eqb}
use Rattle.node_sets.specs.Sets.{marked}
use Rattle.plan_format.specs.Format.{node_count}
use Rattle.plan_blocked.specs.Inner.{Standing}
use Rattle.runs.specs.Searches.{listed}
use Rattle.run_starts.specs.Starts.{node_byte, stray_ordinal}
use Rattle.run_state.specs.State.{bad_byte, state_refusal_under}

-- with nothing blocked
abbrev pub state_refusal : List ℕ → List ℕ → ℕ
state_refusal b s = state_refusal_under b [] s

-- what is asked where an event of node t is judged or written: t is a node, and the state passes 1 to 16
pub record AtEvent (b s : List ℕ) (t : ℕ) : Type 0 where
  pub node : t < node_count b
  pub passed : state_refusal b s ≡ 0

-- the byte of node n, and all that 16 asks of the node, by a table that marks the nodes that stand
unfoldable pub bad_byte_in : List ℕ → List ℕ → List ℕ → ℕ → Bool
bad_byte_in b table s n = bad_byte b s n || (not (marked table n) && not (eqb (node_byte s n) 0))

unfoldable pub bad_node_in : List ℕ → List ℕ → List ℕ → ℕ → Bool
bad_node_in b table s n = bad_byte_in b table s n || stray_ordinal b s n

-- what a check leaves: the refusal, and the table once nothing is refused
pub record StateChecked (b xs : List ℕ) (q r : ℕ) (table : List ℕ) : Type 0 where
  pub returns : r ≡ q
  pub standing : r ≡ 0 → Standing b (listed xs) table
