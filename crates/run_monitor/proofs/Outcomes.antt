-- What a call returns and leaves, by its answer. Assumes nothing.
use mathlib.Core.Path.{◌≡◌, ◌∙◌}
use mathlib.Core.List.{List}
use Prim.Native.Nat.{ℕ}
use borrow.Author.Tests.{ne_eqb}
use Rattle.runs.specs.Calls.{Call, events}
use Rattle.base.specs.Answers.{first}
use Rattle.base.proofs.First.{first_some}
use Rattle.run_state.specs.State.{state_refusal_under}
use Rattle.run_refusals.specs.Events.{call_refusal}
use Rattle.run_step.specs.Steps.{after_all}
use Rattle.run_monitor.specs.Model.{call_state, call_return}

module _ (b xs s : List ℕ) (c : Call) where
  pub unchanged : (call_return b xs s c ≡ 0 → ⊥) → call_state b xs s c ≡ s
  unfolding call_state
  unchanged n = rw (ne_eqb (call_return b xs s c) 0 n)

  pub refused_16 : (state_refusal_under b xs s ≡ 0 → ⊥)
      → (state_refusal_under b xs s ≡ call_return b xs s c) × (s ≡ call_state b xs s c)
  unfolding call_return call_state
  refused_16 n = let z = first_some (state_refusal_under b xs s) (call_refusal b xs s c) n in
      (z, rw (ne_eqb (first (state_refusal_under b xs s) (call_refusal b xs s c)) 0 (λ y. n (z ∙ y))))

  module _ (ok : state_refusal_under b xs s ≡ 0) where
    pub refused_22 : (call_refusal b xs s c ≡ 0 → ⊥)
        → (call_refusal b xs s c ≡ call_return b xs s c) × (s ≡ call_state b xs s c)
    unfolding call_return call_state
    refused_22 n = (rw ok, rw (ok, ne_eqb (call_refusal b xs s c) 0 n))

    pub accepted : call_refusal b xs s c ≡ 0 → (0 ≡ call_return b xs s c)
        × (after_all b s (events c) ≡ call_state b xs s c)
    unfolding call_return call_state
    accepted z = (rw (ok, z), rw (ok, z))
