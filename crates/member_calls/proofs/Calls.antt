-- What is computed of a call is what 02 says. Assumes nothing.
use mathlib.Core.Path.{◌≡◌, refl, sym, ap, ◌∙◌, subst}
use mathlib.Core.Logic.Iff
use mathlib.Core.Logic.{◌≢◌, ◌⊎◌, inl, inr, ◌↔◌, by_cases}
use mathlib.Core.Bool.{Bool}
use mathlib.Core.List.{List}
use Prim.Native.Nat.{ℕ, zero, suc, ◌<◌}
use native.Mathlib.Decide.{ℕ_discrete}
use native.Mathlib.Omega.{arith}
use mir.Val.{bool_byte}
use lib.ListN.{length, get_or, set, length-set}
use lib.Seq.{get_or-set_same, get_or-set_other}
use Rattle.base.specs.Count.{num}
use Rattle.base.proofs.First.{first_none, first_below_lem, answer_tells, answer_given}
use Rattle.plan_rules.specs.Rules.{refusal}
use Rattle.plan_check.specs.Meaning.{plan_of, start_of}
use Rattle.plan_check.proofs.Meaning.{means_well_formed}
use Rattle.runs.specs.Verdict.{Verdict}
use Rattle.runs.specs.Model.Verdicts.{verdict}
use Rattle.runs.proofs.Reflect.{clash}
use Rattle.members.specs.Members.{MemberCall, changed, MemberAnswered}
use Rattle.members.specs.Model.{members_of, kept_or, member_refusal, member_answer, members_after}
use Rattle.members.proofs.Answers.{member_answered, number_least}
use Rattle.member_list.specs.Members.{member_in, MembersPass}
use Rattle.member_list.specs.Model.{members_refusal}
use Rattle.member_list.proofs.Bytes.{plan_refused, is_15, is_16, members_pass}
use Rattle.member_calls.specs.Calls.{MemberCalled}
use Rattle.member_calls.specs.Model.{member_call_refusal, member_return, members_left}
use Rattle.member_calls.proofs.Checks.{list_refused}
use Rattle.member_calls.proofs.Ends.{byte_is, in_list, shows_changed, as_judged, as_written, as_refused, as_kept}

-- the members stay where something is refused, and change otherwise
kept_none : (r : ℕ) (A B : ℕ → Bool) → r ≡ 0 → kept_or r A B ≡ B
kept_none r A B e = rw e refl

kept_some : (r : ℕ) (A B : ℕ → Bool) → (r ≡ 0 → ⊥) → kept_or r A B ≡ A
kept_some zero A B k = absurd (k refl)
kept_some (suc r) A B k = refl

module _ (b ms : List ℕ) (c : MemberCall) where
  -- what holds of the list either way holds of what is left
  in_both : (P : List ℕ → Type 0) → (member_call_refusal b ms c ≡ 0 → P (set ms c.node (num c.joins))) → P ms
      → P (members_left b ms c)
  in_both P f x = by_cases (ℕ_discrete (member_call_refusal b ms c) 0)
      (λ (z : member_call_refusal b ms c ≡ 0). subst P (as_written b ms c z) (f z)) (λ k. subst P (as_kept b ms c k) x)

  number : (n : ℕ) → (member_return b ms c ≡ inl (suc n)) ↔ (member_call_refusal b ms c ≡ suc n)
  unfolding member_return
  number n = answer_tells _ n _

  -- 15 and 16: no later number is one of them
  early : refusal b ≡ 0 → (n : ℕ) → suc n < 17 → (member_return b ms c ≡ inl (suc n)) ↔ (members_refusal b ms ≡ suc n)
  unfolding member_call_refusal
  early ok n l = Iff.trans (number n) (first_below_lem _ _ 17 (suc n)
      (number_least (plan_of b) (member_in b ms) c) (omega arith) l)

  told_refusal : refusal b ≢ 0 → member_return b ms c ≡ inl (refusal b)
  told_refusal k = let q = list_refused b ms c (plan_refused b ms refl k) k in
      sym (ap inl q ∙ as_refused b ms c (λ z. k (q ∙ z)))

  module _ (h : MembersPass b ms) where
    after_16 : member_call_refusal b ms c ≡ member_refusal (plan_of b) (member_in b ms) c
    unfolding member_call_refusal
    after_16 = sym (first_none _ _ ((members_pass b ms).1 h))

    same_answer_lem : member_answer (plan_of b) (start_of b) (member_in b ms) c ≡ member_return b ms c
    unfolding member_return member_answer
    same_answer_lem = rw after_16 refl

    same_members : members_after (plan_of b) (member_in b ms) c ≡ member_in b (members_left b ms c)
    unfolding members_after
    same_members = by_cases (ℕ_discrete (member_call_refusal b ms c) 0)
        (λ (z : member_call_refusal b ms c ≡ 0). kept_none _ _ _ (sym after_16 ∙ z)
        ∙ sym (shows_changed b ms c z) ∙ ap (member_in b) (as_written b ms c z))
        (λ k. kept_some _ _ _ (λ z. k (after_16 ∙ z)) ∙ ap (member_in b) (as_kept b ms c k))

    answered : MemberAnswered (plan_of b) (start_of b) (member_in b ms) c (member_return b ms c)
        (member_in b (members_left b ms c))
    answered = rw (same_answer_lem, same_members) at
        (member_answered (plan_of b) (means_well_formed b h.accepted) (start_of b) (member_in b ms) c)

  kept : (n : ℕ) → member_return b ms c ≡ inl n → members_left b ms c ≡ ms
  kept n e = by_cases (ℕ_discrete (member_call_refusal b ms c) 0)
      (λ (z : member_call_refusal b ms c ≡ 0). let q = as_judged b ms c z ∙ e in clash cc) (λ k. sym (as_kept b ms c k))

  byte : (v : Verdict) → member_return b ms c ≡ inr v → get_or (members_left b ms c) c.node 0 ≡ num c.joins
  unfolding member_return
  byte v e = let z = answer_given _ _ _ e in
      rw (← as_written b ms c z) (get_or-set_same ms c.node (num c.joins) 0 (in_list b ms c z))

  called : MemberCalled b ms c (member_return b ms c) (members_left b ms c)
  called = record {
    returns = refl;
    leaves = refl;
    refused = told_refusal;
    refused_15 = λ ok. Iff.trans (early ok 14 (omega arith)) (is_15 b ms ok);
    refused_16 = λ ok. Iff.trans (early ok 15 (omega arith)) (is_16 b ms ok);
    answered = answered;
    unchanged = kept;
    written = byte;
    others = λ i k. in_both (λ xs. get_or xs i 0 ≡ get_or ms i 0)
        (λ z. get_or-set_other ms c.node i (num c.joins) 0 k) refl;
    as_long = in_both (λ xs. length xs ≡ length ms) (λ z. length-set ms c.node (num c.joins)) refl;
  }

  pub member_called : {a : ℕ ⊎ Verdict} {ms' : List ℕ} → a ≡ member_return b ms c → ms' ≡ members_left b ms c
      → MemberCalled b ms c a ms'
  member_called e f = rw (e, f) called

  -- the two ways in which a call ends
  pub refused_call : {r : ℕ} → r ≡ member_call_refusal b ms c → (r ≡ 0 → ⊥) → MemberCalled b ms c (inl r) ms
  refused_call e k = member_called (ap inl e ∙ as_refused b ms c (λ z. k (e ∙ z))) (as_kept b ms c (λ z. k (e ∙ z)))

  pub accepted_call : {v : Verdict} {ms' : List ℕ} → member_call_refusal b ms c ≡ 0
      → ms' ≡ set ms c.node (bool_byte c.joins) → v ≡ verdict (members_of (plan_of b) (member_in b ms')) (start_of b)
      → MemberCalled b ms c (inr v) ms'
  accepted_call {v} {ms'} z f e = member_called (ap inr judged ∙ as_judged b ms c z) (written ∙ as_written b ms c z)
    where
      written : ms' ≡ set ms c.node (num c.joins)
      written = f ∙ ap (set ms c.node) (byte_is c.joins)

      judged : v ≡ verdict (members_of (plan_of b) (changed (member_in b ms) c)) (start_of b)
      judged = rw (written, shows_changed b ms c z) at e
