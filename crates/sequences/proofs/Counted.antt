-- How many numbers below n pass a test, by lists: those that pass are a list of that length, and no list is longer in
-- which all pass and none comes twice.
use mathlib.Core.Logic.{⊎_elim}
use Rattle.runs.proofs.Base.{◌≡◌, refl, Bool, true, false, List, [], ◌∷◌, Among, here, there}
use Rattle.runs.proofs.Base.{among_none, among_cases, ℕ, zero, suc, ◌+◌, ◌<◌, ◌≤◌, arith, T, eqb, length}
use Rattle.base.specs.Count.{num, count_below}
use Rattle.runs.specs.Tests.{both, negate}
use Rattle.runs.proofs.Reflect.{Reflects, true_T, r_T, r_both, r_negate, r_eq}
use Rattle.sequences.specs.Sequences.{Ahead, at_front, further_on, Once}
use Rattle.sequences.proofs.Lists.{ahead_inv, ahead_left}
use Rattle.sequences.proofs.Ranks.{count_lt}

with_last : Bool → ℕ → List ℕ → List ℕ
with_last true n xs = n ∷ xs
with_last false n xs = xs

module _ (t : ℕ → Bool) where
  -- the numbers below n that pass, the highest first
  pub passing : ℕ → List ℕ
  passing zero = []
  passing (suc n) = with_last (t n) n (passing n)

  pub passing_below : (n c : ℕ) → Among c (passing n) → (c < n) × T (t c)
  unfolding passing with_last
  passing_below zero c i = absurd (among_none i)
  passing_below (suc n) c i = at (t n) refl i (passing_below n c)
    where
      further : (c < n) × T (t c) → (c < suc n) × T (t c)
      further x = (omega (arith, x.0), x.1)

      newest : t n ≡ true → c ≡ n → (c < suc n) × T (t c)
      newest q e = (omega arith, rw e (true_T (t n) q))

      at : (b : Bool) → t n ≡ b → Among c (with_last b n (passing n)) → (Among c (passing n) → (c < n) × T (t c))
          → (c < suc n) × T (t c)
      at true q i ih = ⊎_elim (newest q) (λ j. further (ih j)) (among_cases i)
      at false q i ih = further (ih i)

  pub passing_length : (n : ℕ) → length (passing n) ≡ count_below n t
  unfolding passing with_last count_below
  passing_length zero = refl
  passing_length (suc n) = at (t n) (passing_length n)
    where
      at : (b : Bool) → length (passing n) ≡ count_below n t
          → length (with_last b n (passing n)) ≡ count_below n t + num b
      at true ih = omega (arith, ih)
      at false ih = omega (arith, ih)

  pub passing_once : (n : ℕ) → Once (passing n)
  unfolding passing with_last
  passing_once zero c a = absurd (among_none (ahead_left a))
  passing_once (suc n) c a = at (t n) a (passing_once n c)
    where
      at : (b : Bool) → Ahead c c (with_last b n (passing n)) → ¬ Ahead c c (passing n) → ⊥
      at true q ih = ⊎_elim (λ x. omega (arith, x.0, (passing_below n c x.1).0)) ih (ahead_inv q)
      at false q ih = ih q

-- each number of a list without repetitions takes one from the count
pub few : (t : ℕ → Bool) (n : ℕ) (xs : List ℕ) → ((c : ℕ) → Among c xs → (c < n) × T (t c)) → Once xs
    → length xs ≤ count_below n t
few t n [] h o = omega arith
few t n (x ∷ xs) h o = omega (arith, fewer, few others n xs passes (λ c a. o c (further_on a)))
  where
    others : ℕ → Bool
    others c = both (t c) (λ u. negate (eqb c x))

    r_others : (c : ℕ) → Reflects (others c) (T (t c) × (¬ (c ≡ x)))
    r_others c = r_both _ _ (r_T (t c)) (r_negate _ (r_eq c x))

    fewer : count_below n others < count_below n t
    fewer = count_lt others t (λ i y. ((r_others i).to y).0) n x (h x (here refl)).0 (λ y. ((r_others x).to y).1 refl)
        (h x (here refl)).1

    passes : (c : ℕ) → Among c xs → (c < n) × T (others c)
    passes c m = ((h c (there m)).0, (r_others c).from ((h c (there m)).1, λ e. o x (at_front (rw e at m))))
