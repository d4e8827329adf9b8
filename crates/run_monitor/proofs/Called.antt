-- The promise of `start`, `finish`, `skip` and `finish_together`, from its two equations and by what the function has
-- at hand. Assumes nothing.
use mathlib.Core.Path.{◌≡◌, sym, ap, ◌∙◌}
use mathlib.Core.Logic.{by_cases}
use mathlib.Core.List.{List, [], ◌∷◌}
use Prim.Native.Nat.{ℕ}
use native.Mathlib.Decide.{ℕ_discrete}
use lib.ListN.{length, get_or}
use Rattle.plan_check.specs.Meaning.{plan_of}
use Rattle.runs.specs.Execution.{finish}
use Rattle.runs.specs.Calls.{Call, one, together, events}
use Rattle.runs.specs.Model.Monitor.{returned}
use Rattle.runs.proofs.Calls.Alone.{one_finish}
use Rattle.runs.proofs.Calls.First.{answered}
use Rattle.answers.specs.declared.Refusal.{Refusal}
use Rattle.answers.specs.Refusals.{number}
use Rattle.answers.proofs.Refusals.{some_number}
use Rattle.base.proofs.First.{first_none, first_some}
use Rattle.run_state.specs.State.{world_of, state_refusal_under}
use Rattle.run_state.proofs.Passed.{list_passed}
use Rattle.plan_blocked.specs.Blocked.{plan_under}
use Rattle.plan_blocked.proofs.Refused.{under_well_formed}
use Rattle.run_refusals.specs.Events.{call_refusal}
use Rattle.run_step.specs.Steps.{after_all}
use Rattle.run_monitor.specs.Events.{Called}
use Rattle.run_monitor.specs.Model.{call_state, call_return}
use Rattle.run_monitor.proofs.Outcomes.{unchanged, refused_16, refused_22, accepted}
use Rattle.run_monitor.proofs.Events.{call_steps, call_keeps}

pub called : (b xs s : List ℕ) (c : Call) {r : ℕ} {s' : List ℕ} → r ≡ call_return b xs s c → s' ≡ call_state b xs s c
    → Called b xs s c r s'
unfolding call_return
called b xs s c q h = record {
  returns = q;
  leaves = h;
  refused = λ n. q ∙ sym (first_some (state_refusal_under b xs s) (call_refusal b xs s c) n);
  unchanged = λ n. h ∙ unchanged b xs s c (λ z. n (q ∙ z));
  answered = λ ok.
      rw (
        q ∙ sym (first_none (state_refusal_under b xs s) (call_refusal b xs s c) ok),
        ap (world_of b) h
            ∙ (call_steps b xs s ok c).shows,
      )
      (answered (plan_of b) (plan_under b xs) (under_well_formed b xs (list_passed b xs s ok)) (world_of b s) c);
  well_formed = λ ok. ap (state_refusal_under b xs) h ∙ (call_steps b xs s ok c).well_formed;
  as_long = ap length h ∙ (call_keeps b xs s c).as_long;
  later = λ i l. ap (λ (z : List ℕ). get_or z i 0) h ∙ (call_keeps b xs s c).later i l;
}

pub called_16 : (b xs s : List ℕ) (c : Call) (e : Refusal) → number e ≡ state_refusal_under b xs s
    → Called b xs s c (number e) s
called_16 b xs s c e q = let w = refused_16 b xs s c (λ z. some_number e (q ∙ z)) in called b xs s c (q ∙ w.0) w.1

pub called_22 : (b xs s : List ℕ) (c : Call) → state_refusal_under b xs s ≡ 0 → (e : Refusal)
    → number e ≡ call_refusal b xs s c → Called b xs s c (number e) s
called_22 b xs s c ok e q = let w = refused_22 b xs s c ok (λ z. some_number e (q ∙ z)) in called b xs s c (q ∙ w.0) w.1

pub called_0 : (b xs s : List ℕ) (c : Call) → state_refusal_under b xs s ≡ 0 → call_refusal b xs s c ≡ 0 → {s' : List ℕ}
    → s' ≡ after_all b s (events c) → Called b xs s c 0 s'
called_0 b xs s c ok z h = let w = accepted b xs s c ok z in called b xs s c w.0 (h ∙ w.1)

-- ---- a list of one task: the call is its finish
module _ (b xs s : List ℕ) (t : ℕ) where
  same_return : call_return b xs s (together (t ∷ [])) ≡ call_return b xs s (one (finish t))
  unfolding call_return returned
  same_return =
      by_cases (ℕ_discrete (state_refusal_under b xs s) 0)
      (λ (z : state_refusal_under b xs s ≡ 0). rw (one_finish (plan_of b) (plan_under b xs)
      (under_well_formed b xs (list_passed b xs s z)) (world_of b s) t))
      (λ n. sym (first_some (state_refusal_under b xs s) _ n) ∙ first_some (state_refusal_under b xs s) _ n)

  same_state : call_state b xs s (together (t ∷ [])) ≡ call_state b xs s (one (finish t))
  unfolding call_state
  same_state = rw same_return

  pub one_finishes : {r : ℕ} {s' : List ℕ} → Called b xs s (together (t ∷ [])) r s'
      → Called b xs s (one (finish t)) r s'
  one_finishes c = called b xs s (one (finish t)) (c.returns ∙ same_return) (c.leaves ∙ same_state)
