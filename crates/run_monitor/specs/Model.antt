-- What `start`, `finish`, `skip` and `finish_together` return and leave, as functions that compute. Definitions only.
use Rattle.std.specs.Prelude.{ℕ, cond, List, eqb}
use Rattle.runs.specs.Calls.{Call, events}
use Rattle.base.specs.Answers.{first}
use Rattle.run_state.specs.State.{state_refusal_under}
use Rattle.run_refusals.specs.Events.{call_refusal}
use Rattle.run_step.specs.Steps.{after_all}

-- the checks up to 16, then the call's own
unfoldable pub call_return : List ℕ → List ℕ → List ℕ → Call → ℕ
call_return b xs s c = first (state_refusal_under b xs s) (call_refusal b xs s c)

-- the events of an accepted call happen; a refused one changes nothing
unfoldable pub call_state : List ℕ → List ℕ → List ℕ → Call → List ℕ
call_state b xs s c = cond (eqb (call_return b xs s c) 0) (after_all b s (events c)) s
