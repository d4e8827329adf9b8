-- The refusals 17 to 22 and 25 to 27 of a call, in terms of the states that 01 works out (`returned` of runs).
-- Definitions only.
use Rattle.std.specs.Prelude.{ℕ, List}
use Rattle.plan_check.specs.Meaning.{plan_of}
use Rattle.plan_blocked.specs.Blocked.{plan_under}
use Rattle.runs.specs.Calls.{Call}
use Rattle.runs.specs.Model.Monitor.{returned}
use Rattle.run_state.specs.State.{world_of}

-- the first of a call's checks that applies, or 0: of the plan that the bytes mean, and of what is left of it without
-- the blocked nodes of a list
abbrev pub call_refusal : List ℕ → List ℕ → List ℕ → Call → ℕ
call_refusal b xs s c = returned (plan_of b) (plan_under b xs) (world_of b s) c
