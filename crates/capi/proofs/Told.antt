-- The numbers of answers tell what the answers do. Assumes nothing.
use mathlib.Core.Path.{◌≡◌, refl, sym, ap, ◌∙◌}
use mathlib.Core.Logic.Iff
use mathlib.Core.Logic.{◌⊎◌, inl, inr, ◌↔◌}
use mathlib.Core.Bool.{cond}
use mathlib.Core.List.{List}
use Prim.Native.Nat.{ℕ, ◌<◌}
use native.Mathlib.Omega.{arith}
use lib.Dec.{eqb}
use Rattle.base.proofs.First.{answer_none}
use Rattle.std.specs.declared.result.Result.{Result}
use Rattle.answers.specs.declared.Refusal.{Refusal}
use Rattle.answers.specs.Refusals.{told}
use Rattle.plan_blocked.specs.Blocked.{refusal_under}
use Rattle.runs.specs.Verdict.{Verdict, CLEAR, DOOMED, OPEN}
use Rattle.run_state.specs.State.{state_refusal_under}
use Rattle.run_monitor.specs.Status.{Word, COMPLETE, UNFINISHED, Report, reported, Told, status_answer}
use Rattle.verdict.specs.Verdict.{Answer, said, answer_of, Assessed}
use Rattle.listing.specs.Listing.{Lists}
use Rattle.capi_numbers.specs.Numbers.{verdict_number, status_number, written_number}
use Rattle.capi.specs.Told.{VerdictNumber, StatusNumber, ListingNumber}

-- a number from which the word can be told is that of a word exactly if the answer is that word
number_tells : {A : Type 0} (num : ℕ ⊎ A → ℕ) (of : ℕ → A) → ((v : A) → of (num (inr v)) ≡ v) → {x : ℕ ⊎ A} {u : A}
    → x ≡ inr u
    → (v : A) → (num x ≡ num (inr v)) ↔ (x ≡ inr v)
number_tells num of back {u = u} e v =
    (λ q. e ∙ ap inr (sym (back u) ∙ ap of (ap num (sym e) ∙ q) ∙ back v), λ q. ap num q)

-- the word of a number
verdict_in : ℕ → Verdict
verdict_in n = cond (eqb n 128) CLEAR (cond (eqb n 129) DOOMED OPEN)

verdict_back : (v : Verdict) → verdict_in (verdict_number (inr v)) ≡ v
unfolding verdict_in
verdict_back CLEAR = refl
verdict_back DOOMED = refl
verdict_back OPEN = refl

word_in : ℕ → Word
word_in n = cond (eqb n 128) COMPLETE UNFINISHED

word_back : (v : Word) → word_in (status_number (inr v)) ≡ v
unfolding word_in
word_back COMPLETE = refl
word_back UNFINISHED = refl

-- a number below those of the words is that of a refusal
refusal_number_lem : (x : ℕ ⊎ Verdict) (n : ℕ) → n < 128 → (verdict_number x ≡ n) ↔ (x ≡ inl n)
refusal_number_lem x n l = (to x, λ q. ap verdict_number q)
  where
    to : (y : ℕ ⊎ Verdict) → verdict_number y ≡ n → y ≡ inl n
    to (inl m) q = ap inl q
    to (inr CLEAR) q = absurd (omega (arith, q))
    to (inr DOOMED) q = absurd (omega (arith, q))
    to (inr OPEN) q = absurd (omega (arith, q))

pub verdict_told : (b xs : List ℕ) (a : Answer) {r : ℕ} → Assessed b xs a → r ≡ verdict_number (said a)
    → VerdictNumber b xs r
unfolding answer_of
verdict_told b xs a x q =
    record {
      returns = q ∙ ap verdict_number x.returns;
      refused_28 = λ acc. rw q (Iff.trans (refusal_number_lem (said a) 28 (omega arith)) (x.refused_28 acc));
      refused_29 = λ acc. rw q (Iff.trans (refusal_number_lem (said a) 29 (omega arith)) (x.refused_29 acc));
      judged = λ acc v.
          rw q
          (Iff.trans
          (number_tells verdict_number verdict_in verdict_back
          (x.returns ∙ sym (answer_none (refusal_under b xs) _ acc)) v)
          (x.judged acc v));
      clear = λ acc. rw q (Iff.trans (tells acc CLEAR) (x.clear acc));
      doomed = λ acc z. x.doomed acc ((tells acc DOOMED).0 (sym q ∙ z));
    }
  where
    tells : refusal_under b xs ≡ 0 → (v : Verdict) → (verdict_number (said a) ≡ verdict_number (inr v)) ↔
        (said a ≡ inr v)
    tells acc v =
        number_tells verdict_number verdict_in verdict_back (x.returns ∙ sym (answer_none (refusal_under b xs) _ acc)) v

pub status_told : (b xs s : List ℕ) (a : Report) {r : ℕ} → Told b xs s a → r ≡ status_number (reported a)
    → StatusNumber b xs s r
unfolding status_answer
status_told b xs s a x q =
    record {
      returns = q ∙ ap status_number x.returns;
      complete = λ ok.
          rw q
          (Iff.trans
          (number_tells status_number word_in word_back
          (x.returns ∙ sym (answer_none (state_refusal_under b xs s) _ ok)) COMPLETE)
          (λ c. (x.complete.0 c).1, λ c. x.complete.1 (ok, c)));
    }

pub listing_told : (b out : List ℕ) (a : Result ℕ Refusal) {r : ℕ} {out' : List ℕ} → Lists b out a out'
    → r ≡ written_number (told a) → ListingNumber b out r out'
listing_told b out a x q = record { returns = q ∙ ap written_number x.returns; leaves = x.leaves; text = x.text }
