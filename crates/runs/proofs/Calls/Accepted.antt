-- Lists of calls that are all accepted, the last call first: they are executions of the root. A plan that is not CLEAR
-- has one that comes to a violation; no such list completes a DOOMED root.
use Rattle.runs.proofs.Base.{◌≡◌, refl, ap, ◌∙◌, ◌⊎◌, inl, inr, Bool, not, some, List, [], ◌∷◌, ◌++◌, ℕ}
use Rattle.runs.specs.Plan.{Plan}
use Rattle.runs.specs.WellFormed.{WellFormed}
use Rattle.runs.specs.Execution.{Event, History, status_after, Complete, Execution, none_yet}
use Rattle.runs.specs.Execution.{one_more, pre_of, Earlier}
use Rattle.runs.specs.Verdict.{Clear, Doomed, by_clobber, by_start}
use Rattle.runs.specs.Calls.{Call, one, together, events}
use Rattle.runs.proofs.Execution.{earlier_nil, earlier_inv}
use Rattle.runs.proofs.Summary.{must_clobber_fails}
use Rattle.runs.proofs.Verdict.Exact.{MayFail, clear_or_may_fail}
use Rattle.runs.proofs.Calls.Listed.{rises}
use Rattle.runs.proofs.Calls.Together.{finishes_execution, before_finishes}
use Rattle.runs.proofs.Calls.Violation.{flag_after, world_after, Violates, EnabledCall, ViolatesCall, Violation}
use Rattle.runs.proofs.Calls.Violation.{flag_last, flag_none, clear_no_violation, may_fail_violates, dec_violates}

-- what a list of calls comes to
abbrev pub flat : List Call → History
flat [] = []
flat (c ∷ cs) = events c ++ flat cs

-- a list of calls that are all accepted, the last call first
pub data AcceptedAll (p : Plan) (F : ℕ → Bool) : List Call → Type 0 where
  no_call : AcceptedAll p F []
  call_more : {c : Call} {cs : List Call} → AcceptedAll p F cs → EnabledCall p (status_after (flat cs)) c
      → ¬ ViolatesCall p (world_after p F (flat cs)) c
      → AcceptedAll p F (c ∷ cs)

-- an accepted list and a call to which 21, 22 or 26 is the first to apply
pub record FirstViolation (p : Plan) (F : ℕ → Bool) : Type 0 where
  pub calls : List Call
  pub call : Call
  pub accepted : AcceptedAll p F calls
  pub enabled : EnabledCall p (status_after (flat calls)) call
  pub violates : ViolatesCall p (world_after p F (flat calls)) call

-- the events of a history, each as a call
abbrev ones : History → List Call
ones [] = []
ones (e ∷ h) = one e ∷ ones h

flat_ones : (h : History) → flat (ones h) ≡ h
flat_ones [] = refl
flat_ones (e ∷ h) = ap (λ l. e ∷ l) (flat_ones h)

module _ (p : Plan) (w : WellFormed p) (F : ℕ → Bool) where
  -- what is accepted is an execution of the root
  pub accepted_execution : {cs : List Call} → AcceptedAll p F cs → Execution p 0 (flat cs)
  accepted_execution no_call = none_yet
  accepted_execution (call_more {c = one e} k m n) = one_more (accepted_execution k) m
  accepted_execution (call_more {c = together ts} k (r, m) n) = finishes_execution p (rises r) (accepted_execution k) m

  pub clear_no_first_violation : Clear p F → ¬ FirstViolation p F
  clear_no_first_violation c x = clear_no_violation p F w c (record {
    history = flat x.calls;
    call = x.call;
    execution = accepted_execution x.accepted;
    enabled = x.enabled;
    violates = x.violates;
  })

  -- the first violation of an execution
  accepted_or_violation : {h : History} → Execution p 0 h → AcceptedAll p F (ones h) ⊎ FirstViolation p F
  accepted_or_violation none_yet = inl no_call
  accepted_or_violation (one_more {e = e} {h = h} f m) =
      go (accepted_or_violation f) (dec_violates p F w (world_after p F h) e)
    where
      go : AcceptedAll p F (ones h) ⊎ FirstViolation p F → Dec (Violates p (world_after p F h) e)
          → AcceptedAll p F (ones (e ∷ h)) ⊎ FirstViolation p F
      go (inr x) d = inr x
      go (inl k) (yes b) = inr (record
          { calls = ones h; call = one e; accepted = k; enabled = rw (flat_ones h) m; violates = rw (flat_ones h) b })
      go (inl k) (no n) = inl (call_more {c = one e} k (rw (flat_ones h) m) (rw (flat_ones h) n))

  first_violation : Violation p F → FirstViolation p F
  first_violation x = go x.history x.enabled x.violates (accepted_or_violation x.execution)
    where
      go : (h : History) → EnabledCall p (status_after h) x.call → ViolatesCall p (world_after p F h) x.call
          → AcceptedAll p F (ones h) ⊎ FirstViolation p F → FirstViolation p F
      go h m b (inr y) = y
      go h m b (inl k) = record {
        calls = ones h;
        call = x.call;
        accepted = k;
        enabled = rw (flat_ones h) m;
        violates = rw (flat_ones h) b;
      }

  -- a plan is CLEAR, or some list of calls meets 21, 22 or 26
  pub clear_or_first_violation : Clear p F ⊎ FirstViolation p F
  clear_or_first_violation = go (clear_or_may_fail p w F)
    where
      go : Clear p F ⊎ ((f : ℕ) × (v : Bool) × MayFail p F f v) → Clear p F ⊎ FirstViolation p F
      go (inl c) = inl c
      go (inr (f, v, x)) = inr (first_violation (may_fail_violates p F w f v x))

  -- no precondition of an accepted list is unmet
  accepted_met : {cs : List Call} {e : Event} {r : History} (f : ℕ) (v : Bool) → AcceptedAll p F cs
      → Earlier (e ∷ r) (flat cs) → pre_of p.conditions e f ≡ some v
      → flag_after p F r f ≡ not v → ⊥
  accepted_met f v no_call q nd b = earlier_nil q refl
  accepted_met {e = e} {r = r} f v (call_more {c = one x} {cs = cs} k m n) q nd b =
      go (earlier_inv q) (λ z. accepted_met f v k z nd b)
    where
      go : (e ∷ r ≡ x ∷ flat cs) ⊎ Earlier (e ∷ r) (flat cs) → (Earlier (e ∷ r) (flat cs) → ⊥) → ⊥
      go (inl z) ih = let y : r ≡ flat cs = cc in let s : e ≡ x = cc in
          n (inl (record { on = f; sign = v; needs = rw s at nd; unmet = rw y at b }))
      go (inr z) ih = ih z
  accepted_met f v (call_more {c = together ts} {cs = cs} k m n) q nd b = accepted_met f v k
      (before_finishes p ts (flat cs) f v nd q) nd b

  -- no accepted list completes a DOOMED root
  pub doomed_incomplete : Doomed p F → {cs : List Call} → AcceptedAll p F cs → ¬ Complete p (status_after (flat cs)) 0
  doomed_incomplete (by_clobber f v d) {cs} k c = let x =
      must_clobber_fails p w f v d (flat cs) (record { execution = accepted_execution k; complete = c }) in
      accepted_met f v k x.at x.needs (flag_last p F x.before f (not v) x.opposed)
  doomed_incomplete (by_start f v q mn) {cs} k c = let x =
      mn (flat cs) (record { execution = accepted_execution k; complete = c }) in
      accepted_met f v k x.at x.needs (flag_none p F x.before f x.unasserted ∙ q)
