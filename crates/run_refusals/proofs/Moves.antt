-- The events that moves are: what they ask, where their literals stand, and which node they move. Assumes nothing.
use mathlib.Core.Path.{◌≡◌, refl}
use mathlib.Core.Bool.{Bool}
use mathlib.Core.List.{List}
use Prim.Native.Nat.{ℕ}
use Rattle.runs.specs.Plan.{Kind, task, optional}
use Rattle.runs.specs.Execution.{Event, start, finish, skip, node_of}
use Rattle.runs.specs.Calls.{asks}
use Rattle.run_refusals.specs.declared.Move.{Move}
use Rattle.run_refusals.specs.declared.Move.TheVariants.{Start, Finish}
use Rattle.run_refusals.specs.Inner.{event_of, event_place}
use Rattle.run_refusals.specs.Parts.{begin_refusal}

-- what does not depend on the task
pub asks_of : (m : Move) (t : ℕ) → asks (event_of m 0) ≡ asks (event_of m t)
asks_of Start t = refl
asks_of Finish t = refl

pub place_is : (m : Move) (t : ℕ) → event_place (event_of m 0) ≡ event_place (event_of m t)
place_is Start t = refl
place_is Finish t = refl

pub node_of_lem : (m : Move) (t : ℕ) → node_of (event_of m t) ≡ t
node_of_lem Start t = refl
node_of_lem Finish t = refl

-- the events of tasks
abbrev pub OfTask : Event → Type 0
OfTask (start t) = Unit {0}
OfTask (finish t) = Unit {0}
OfTask (skip g) = ⊥

pub task_event : (m : Move) (t : ℕ) → OfTask (event_of m t)
task_event Start t = tt
task_event Finish t = tt

-- the kind of node that an event moves
abbrev pub event_kind : Event → Kind
event_kind (start t) = task
event_kind (finish t) = task
event_kind (skip g) = optional

pub begin_start : (b s : List ℕ) (m : Move) (t : ℕ) (v : Bool) → m ≡ Start
    → begin_refusal b s (start t) v ≡ begin_refusal b s (event_of m t) v
begin_start b s m t v e = rw e

pub begin_finish : (b s : List ℕ) (m : Move) (t : ℕ) (v : Bool) → m ≡ Finish → 0 ≡ begin_refusal b s (event_of m t) v
unfolding begin_refusal
begin_finish b s m t v e = rw e
