-- The number of a finding tells the finding: a refusal is below 2^56, and the word of a sequence is not. Assumes
-- nothing.
use mathlib.Core.Path.{◌≡◌, refl, sym, ap, ◌∙◌}
use mathlib.Core.Logic.{◌⊎◌, inl, inr, by_cases}
use mathlib.Core.List.{List, []}
use Prim.Native.Nat.{ℕ, ◌^◌, ◌≤◌, ◌<◌}
use native.Mathlib.Nat.{div-eq_of_lt}
use native.Mathlib.Omega.{arith}
use native.Mathlib.Decide.{ℕ_discrete, dec_lt}
use lib.ListN.{length}
use borrow.Author.Tests.{lt-ltb, le-ltb}
use Rattle.std.specs.declared.result.Result.TheVariants.{Ok, Err}
use Rattle.answers.specs.Refusals as refusals
use Rattle.plan_rules.specs.Rules.{refusal}
use Rattle.plan_rules.proofs.Limit.{refusal_limit}
use Rattle.sequences.specs.Word.{low_bytes, sequence_in}
use Rattle.sequences.proofs.Cases.{sought_number}
use Rattle.sequence.specs.Sequence.{Finding, SoughtOf, Sequenced}
use Rattle.capi_numbers.specs.Numbers.{sequence_number}
use Rattle.capi_numbers.specs.Inner.{finding_number}
use Rattle.capi.specs.Told.{told_by, SequenceNumber}

abbrev number : ℕ ⊎ List ℕ → ℕ
number (inl n) = n
number (inr xs) = 0

module _ (b : List ℕ) where
  -- a refusal is a small number
  small : {n : ℕ} → SoughtOf b (inl n) → n < 2 ^ 56
  small {n} s = at (ℕ_discrete (refusal b) 0)
    where
      of_two : (n ≡ 23) ⊎ (n ≡ 24) → n < 2 ^ 56
      of_two (inl e) = omega (arith, e)
      of_two (inr e) = omega (arith, e)

      at : Dec (refusal b ≡ 0) → n < 2 ^ 56
      at (yes ok) = of_two (sought_number (s.sought ok) n refl)
      at (no k) = omega (arith, ap number (s.refused k), refusal_limit b)

  -- the word of a sequence is a great one: below 2^56 it would tell an empty sequence
  great : {w : ℕ} → SoughtOf b (inr (sequence_in w)) → 2 ^ 56 ≤ w
  unfolding low_bytes
  great {w} s = by_cases (dec_lt w (2 ^ 56))
      (λ (l : w < 2 ^ 56). absurd (omega (arith, (s.sized (sequence_in w) refl).0, ap length (empty l))))
      (λ n. omega (arith, n))
    where
      empty : w < 2 ^ 56 → sequence_in w ≡ []
      empty l = ap (λ (n : ℕ). low_bytes n w) (div-eq_of_lt l)

  pub sequence_told : (f : Finding) {r : ℕ} → Sequenced b f → r ≡ finding_number f → SequenceNumber b r
  sequence_told (Err x) a e =
      let n = refusals.number x in
      let t : told_by n ≡ inl n = rw (lt-ltb n (2 ^ 56) (small a.sought)) in
      rw e (record { returns = ap sequence_number a.returns; sought = rw t a.sought; exact = rw t })
  sequence_told (Ok w) a e =
      let t : told_by w ≡ inr (sequence_in w) = rw (le-ltb w (2 ^ 56) (great a.sought)) in
      rw e (record {
        returns = a.exact w refl ∙ ap sequence_number a.returns;
        sought = rw t a.sought;
        exact = a.exact w refl ∙ ap sequence_number (sym t);
      })
