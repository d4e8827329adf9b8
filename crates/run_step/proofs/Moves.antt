-- What a move leaves. Assumes nothing.
use mathlib.Core.Path.{◌≡◌, ◌∙◌}
use mathlib.Core.List.{List}
use Prim.Native.Nat.{ℕ, suc}
use Rattle.runs.specs.Plan.{place_number}
use Rattle.run_starts.specs.Starts.{started_count}
use Rattle.run_starts.specs.Inner.{with_ordinal}
use Rattle.run_refusals.specs.declared.Move.{Move}
use Rattle.run_refusals.specs.declared.Move.TheVariants.{Start, Finish}
use Rattle.run_refusals.specs.Inner.{event_of, event_place}
use Rattle.run_step.specs.Steps.{with_event, after_event}

-- a move that was written part by part
module _ (b s : List ℕ) (m : Move) (t q : ℕ) (place : q ≡ place_number (event_place (event_of m 0))) where
  pub start_written : m ≡ Start → (k : ℕ) (next z : List ℕ) → next ≡ with_event b q t 1 s → k ≡ suc (started_count b s)
      → z ≡ with_ordinal b t k next → z ≡ after_event b s (event_of m t)
  start_written e k next z n o h = h ∙ rw (n, o, place, e)

  pub finish_written : m ≡ Finish → (z : List ℕ) → z ≡ with_event b q t 2 s → z ≡ after_event b s (event_of m t)
  finish_written e z h = h ∙ rw (place, e)
