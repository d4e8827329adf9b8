-- Inner contracts: the events that moves are, and what a refusal is by a table of the nodes that stand. Definitions
-- only.
use Rattle.std.specs.Prelude.{ℕ, ◌≡◌, List}
use Rattle.plan_blocked.specs.Inner.{Standing}
use Rattle.runs.specs.Searches.{listed}
use Rattle.runs.specs.Plan.{Place, inc, post}
use Rattle.runs.specs.Execution.{Event, start, finish, skip}
use Rattle.runs.specs.Calls.{Call, one}
use Rattle.run_state.specs.State.{state_refusal_under}
use Rattle.run_refusals.specs.declared.Move.{Move}
use Rattle.run_refusals.specs.declared.Move.TheVariants.{Start, Finish}
use Rattle.run_refusals.specs.Events.{call_refusal}

-- the event that a move of task t is
abbrev pub event_of : Move → ℕ → Event
event_of Start t = start t
event_of Finish t = finish t

-- the place of the literals that an event makes true (a skip's group has none at any)
abbrev pub event_place : Event → Place
event_place (start t) = inc
event_place (finish t) = post
event_place (skip g) = post

abbrev pub event_refusal : List ℕ → List ℕ → List ℕ → Event → ℕ
event_refusal b xs s e = call_refusal b xs s (one e)

-- r is a call's refusal, whatever list of blocked nodes plan and state pass with; that of an event, if a table marks
-- the nodes that stand
abbrev pub Refuses : List ℕ → List ℕ → Call → ℕ → Type 0
Refuses b s c r = (xs : List ℕ) → state_refusal_under b xs s ≡ 0 → r ≡ call_refusal b xs s c

abbrev pub RefusesEvent : List ℕ → List ℕ → List ℕ → Event → ℕ → Type 0
RefusesEvent b s table e r = (xs : List ℕ) → state_refusal_under b xs s ≡ 0 → Standing b (listed xs) table
    → r ≡ event_refusal b xs s e
