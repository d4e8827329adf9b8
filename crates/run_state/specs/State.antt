-- A state (01: record): eight bytes of flags, then a byte for each node of its plan, then for each node a number of two
-- bytes, the ordinal of its start (02: place). When it is refused, with a list of blocked nodes, and what it shows.
-- Definitions only.
use Rattle.std.specs.Prelude.{ℕ, ◌+◌, ◌*◌, Bool, false, cond, not, ◌&&◌, ◌||◌, List, length, eqb, ltb, leb}
use Rattle.base.specs.Answers.{first}
use Rattle.run_flags.specs.Flags.{flag_in}
use Rattle.run_starts.specs.Starts.{node_byte, ordinal_in, started_count, stray_ordinal, misnumbered}
use Rattle.plan_format.specs.Format.{node_count, flag_count, is_kind}
use Rattle.plan_blocked.specs.Blocked.{plan_under, refusal_under}
use Rattle.runs.specs.Searches.{any_below}
use Rattle.runs.specs.Execution.{Status, waiting, running, done}
use Rattle.runs.specs.Calls.{World}

-- 15: under 8 + 3N bytes
unfoldable pub too_short : List ℕ → List ℕ → Bool
too_short b s = ltb (length s) (8 + 3 * node_count b)

-- 16: a bit for flag V or higher, a group byte not 0 (02: 2 passes at an optional group, which is then skipped), a task
-- byte over 2; of the ordinals `stray_ordinal` and `misnumbered`; "a record byte there that is not 0", at or under a
-- blocked node. (So it does a place there: a node that has not been started has none.)
unfoldable pub bad_flag : List ℕ → List ℕ → ℕ → Bool
bad_flag b s f = leb (flag_count b) f && flag_in s f

unfoldable pub bad_byte : List ℕ → List ℕ → ℕ → Bool
bad_byte b s n = cond (is_kind b n 0) (ltb 2 (node_byte s n))
    (cond (is_kind b n 3) (not (eqb (node_byte s n) 0 || eqb (node_byte s n) 2)) (not (eqb (node_byte s n) 0)))

unfoldable pub bad_node : List ℕ → List ℕ → ℕ → Bool
bad_node b s n = bad_byte b s n || stray_ordinal b s n

unfoldable pub bad_absent : List ℕ → List ℕ → List ℕ → ℕ → Bool
bad_absent b xs s n = not ((plan_under b xs).tree.here n) && not (eqb (node_byte s n) 0)

unfoldable pub malformed_under : List ℕ → List ℕ → List ℕ → Bool
malformed_under b xs s =
    any_below 64 (bad_flag b s) || any_below (node_count b) (λ n. bad_node b s n || bad_absent b xs s n)
    || misnumbered b s

-- refusals 1 to 14, 28, 29 and 15
unfoldable pub room_refusal_under : List ℕ → List ℕ → List ℕ → ℕ
room_refusal_under b xs s = first (refusal_under b xs) (cond (too_short b s) 15 0)

-- and 16
unfoldable pub state_refusal_under : List ℕ → List ℕ → List ℕ → ℕ
state_refusal_under b xs s = first (room_refusal_under b xs s) (cond (malformed_under b xs s) 16 0)

-- 0 waiting, 1 running, 2 done (of an optional group: skipped)
unfoldable pub status_at : ℕ → Status
status_at x = cond (eqb x 0) waiting (cond (eqb x 1) running done)

-- a node that events move: a task, or an optional group
unfoldable pub moves : List ℕ → ℕ → Bool
moves b n = is_kind b n 0 || is_kind b n 3

-- The states that a state's bytes show: a number that is no task or optional group of the plan waits, a flag from 64 on
-- is clear, and a number past the nodes has the ordinal 0.
unfoldable pub status_in : List ℕ → List ℕ → ℕ → Status
status_in b s n = cond (moves b n) (status_at (node_byte s n)) waiting

unfoldable pub flag_shown : List ℕ → ℕ → Bool
flag_shown s f = cond (ltb f 64) (flag_in s f) false

unfoldable pub ordinal_shown : List ℕ → List ℕ → ℕ → ℕ
ordinal_shown b s n = cond (ltb n (node_count b)) (ordinal_in b s n) 0

unfoldable pub world_of : List ℕ → List ℕ → World
world_of b s = record {
  status = status_in b s;
  flag = flag_shown s;
  starts = started_count b s;
  ordinal = ordinal_shown b s;
}
