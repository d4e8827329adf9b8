-- Classes of events, and runs by the classes of their events: what the rules by children are about. Nothing here has to
-- be believed. Definitions only.
use Rattle.std.specs.Prelude.{◌≡◌, Bool, [], ◌∷◌, ℕ}
use Rattle.std.proofs.Math.Option.{none, some}
use Rattle.runs.specs.Plan.{inc, Plan}
use Rattle.runs.specs.Execution.{Event, start, finish, skip, History, Execution, pre_of, asserts}
use Rattle.runs.specs.Summary.{May}

-- every event of a list
pub data All (Q : Event → Type 0) : History → Type 0 where
  all_nil : All Q []
  all_cons : {e : Event} {h : History} → Q e → All Q h → All Q (e ∷ h)

-- an event in H with only Q after it
pub data LastIs (Q H : Event → Type 0) : History → Type 0 where
  here : {e : Event} {r : History} → H e → LastIs Q H (e ∷ r)
  past : {e : Event} {r : History} → Q e → LastIs Q H r → LastIs Q H (e ∷ r)

-- the events of which refusals 19 and 20 are asked
abbrev pub Begins : Event → Type 0
Begins (start t) = Unit {0}
Begins (finish t) = ⊥
Begins (skip g) = Unit {0}

-- ---- what an event does to a flag f or a literal (f, v)
-- no condition on the events
abbrev pub Anything : Event → Type 0
Anything e = Unit {0}

module _ (p : Plan) (f : ℕ) where
  -- it says nothing of the flag
  abbrev pub Unasserted : Event → Type 0
  Unasserted e = asserts p e f ≡ none

  module _ (v : Bool) where
    -- it asserts the literal
    abbrev pub Asserts : Event → Type 0
    Asserts e = asserts p e f ≡ some v

    -- it has the literal as precondition
    abbrev pub PreOn : Event → Type 0
    PreOn e = pre_of p.conditions e f ≡ some v

    -- with it an incondition on the literal begins
    abbrev pub BeginsInc : Event → Type 0
    BeginsInc (start t) = p.conditions.sign inc t f ≡ some v
    BeginsInc (finish t) = ⊥
    BeginsInc (skip g) = ⊥

    -- it neither has the precondition nor asserts the flag
    abbrev pub Neutral : Event → Type 0
    Neutral e = (¬ PreOn e) × Unasserted e

    -- it asserts the flag and has not the precondition: later preconditions on the flag are no matter of those outside
    abbrev pub Covers : Event → Type 0
    Covers e = (¬ PreOn e) × (¬ Unasserted e)

-- ---- runs of n
module _ (p : Plan) (Q : Event → Type 0) where
  -- some completed execution has all its events in Q
  abbrev pub MayQuiet : ℕ → Type 0
  MayQuiet n = May p n (All Q)

  module _ (H : Event → Type 0) where
    -- some completed execution has an event in H with only Q after it
    abbrev pub MayLast : ℕ → Type 0
    MayLast n = May p n (LastIs Q H)

    -- some execution comes to an event in H with only Q before it
    pub record MayMeet (n : ℕ) : Type 0 where
      pub event : Event
      pub before : History
      pub execution : Execution p n (event ∷ before)
      pub hit : H event
      pub quiet : All Q before
