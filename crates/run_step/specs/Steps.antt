-- The bytes that an event leaves, and those that the finishes of a list do. Definitions only.
use Rattle.std.specs.Prelude.{ℕ, suc, ◌+◌, List, [], ◌∷◌, ◌++◌, take, drop, set}
use Rattle.runs.specs.Plan.{inc, post, place_number}
use Rattle.runs.specs.Execution.{running, done, Event, start, finish, skip, History}
use Rattle.runs.specs.Numbers.{status_byte}
use Rattle.run_starts.specs.Starts.{started_count}
use Rattle.run_starts.specs.Inner.{with_ordinal}
use Rattle.run_state.specs.Made.{made}
use Rattle.node_sets.specs.One.{only}

-- the state with the literals of task t at place q made true, and the byte x at t
unfoldable pub with_event : List ℕ → ℕ → ℕ → ℕ → List ℕ → List ℕ
with_event b q t x s = set (made b q (only t) (take 8 s) ++ drop 8 s) (8 + t) x

-- the state after an event that happens: a start writes its inconditions, its byte and the next ordinal; a finish its
-- postconditions and its byte; a skip "writes the group's record byte, which is 2 once skipped, nothing else" (02)
abbrev pub after_event : List ℕ → List ℕ → Event → List ℕ
after_event b s (start t) = with_ordinal b t (suc (started_count b s))
    (with_event b (place_number inc) t (status_byte running) s)
after_event b s (finish t) = with_event b (place_number post) t (status_byte done) s
after_event b s (skip g) = set s (8 + g) (status_byte done)

-- the state after several, the newest first: those of a call are one event, or the finishes of a list, each of which
-- writes its task's "bytes and leavings, nothing else" (02)
abbrev pub after_all : List ℕ → List ℕ → History → List ℕ
after_all b s [] = s
after_all b s (e ∷ h) = after_event b (after_all b s h) e
