-- A CLEAR plan meets 23 or has a sequence, a DOOMED one has none; of one plan there is one answer. Assumes nothing.
use mathlib.Core.Path.{◌≡◌, sym, ◌∙◌, subst}
use mathlib.Core.Logic.{inr, by_cases}
use mathlib.Core.List.{List, []}
use Prim.Native.Nat.{ℕ}
use native.Mathlib.Decide.{ℕ_discrete}
use Rattle.base.proofs.First.{answer_some}
use Rattle.plan_rules.specs.Rules.{refusal}
use Rattle.plan_check.specs.Meaning.{plan_of, start_of}
use Rattle.plan_check.proofs.Accepted.{clean}
use Rattle.plan_check.proofs.Meaning.{meaning_accepted, means_well_formed}
use Rattle.plan_blocked.specs.Blocked.{refusal_under}
use Rattle.plan_blocked.proofs.Refused.{plan_accepted, none_under}
use Rattle.runs.specs.Plan.{Plan}
use Rattle.runs.specs.Verdict.{Verdict, CLEAR, DOOMED, Judged}
use Rattle.runs.proofs.Reflect.{clash}
use Rattle.verdict.specs.Verdict.{Answer, said, answer_of, Assessed}
use Rattle.sequences.proofs.Cases.{sought_only}
use Rattle.sequences.proofs.Rising.{clear_found, doomed_unfound}
use Rattle.claims.specs.Sequences.{SequencesAgree, SequencesSame}

module _ (b : List ℕ) (a : Answer) (x : Assessed b [] a) where
  -- where a verdict is said, the plan is accepted and has it
  passed : {v : Verdict} → said a ≡ inr v → refusal_under b [] ≡ 0
  unfolding answer_of
  passed {v} e = by_cases (ℕ_discrete (refusal_under b []) 0) (λ (z : refusal_under b [] ≡ 0). z)
      (λ k. let q = sym e ∙ x.returns ∙ sym (answer_some (refusal_under b []) _ k) in clash cc)

  has_verdict : (v : Verdict) → said a ≡ inr v → (refusal b ≡ 0) × Judged (plan_of b) (start_of b) v
  has_verdict v e =
      let ok = plan_accepted b [] (passed e) in
      (ok, subst (λ (p : Plan). Judged p (start_of b) v) (none_under b ok) ((x.judged (passed e) v).0 e))

pub sequences_agree : SequencesAgree
sequences_agree b a s x y = record {
  clear = λ e. let (ok, c) = has_verdict b a x CLEAR e in
      clear_found (plan_of b) (meaning_accepted b (clean b ok)) (start_of b) c (y.sought ok);
  doomed = λ e. let (ok, d) = has_verdict b a x DOOMED e in
      doomed_unfound (plan_of b) (means_well_formed b ok) (start_of b) d (y.sought ok);
}

pub sequences_same : SequencesSame
sequences_same b s t x y = by_cases (ℕ_discrete (refusal b) 0)
    (λ (ok : refusal b ≡ 0). sought_only (x.sought ok) (y.sought ok))
    (λ k. x.refused k ∙ sym (y.refused k))
