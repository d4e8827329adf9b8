-- The laws of `greatest`. Assumes nothing.
use mathlib.Core.Path.{◌≡◌, refl}
use mathlib.Core.Logic.{⊎_elim, by_cases}
use mathlib.Core.Bool.{Bool, true, false}
use Prim.Native.Nat.{ℕ, zero, suc, ◌<◌, ◌≤◌}
use native.Mathlib.Decide.{ℕ_discrete}
use native.Mathlib.Omega.{arith}
use Rattle.base.proofs.Booleans.{either}
use Rattle.wait_lengths.specs.Waits.{greatest}

-- as far as the numbers that pass go
pub greatest_same : (n : ℕ) (p : ℕ → Bool) (f g : ℕ → ℕ) → ((i : ℕ) → i < n → p i ≡ true → f i ≡ g i)
    → greatest n p f ≡ greatest n p g
unfolding greatest
greatest_same zero p f g h = refl
greatest_same (suc n) p f g h =
    let r = greatest_same n p f g (λ i l e. h i (omega arith) e) in
    ⊎_elim
    (λ (e : p n ≡ true). rw (e, r, h n (omega arith) e))
    (λ (e : p n ≡ false). rw (e, r))
    (either (p n))

module _ (p : ℕ → Bool) (f : ℕ → ℕ) where
  -- none below n passes
  pub greatest_empty : (n : ℕ) → ((i : ℕ) → i < n → p i ≡ false) → greatest n p f ≡ 0
  unfolding greatest
  greatest_empty zero h = refl
  greatest_empty (suc n) h = rw (h n (omega arith)) (greatest_empty n (λ i l. h i (omega arith)))

  -- it is an upper bound, and the least one
  pub greatest_le : (n i : ℕ) → i < n → p i ≡ true → f i ≤ greatest n p f
  unfolding greatest
  greatest_le zero i l e = absurd (omega arith)
  greatest_le (suc n) i l e =
      by_cases (ℕ_discrete i n)
      (λ (z : i ≡ n). rw (← z, e) (omega arith))
      (λ z.
      let r = greatest_le n i (omega arith) e in
      ⊎_elim (λ (q : p n ≡ true). rw q (omega arith)) (λ (q : p n ≡ false). rw q r) (either (p n)))

  pub greatest_least : (n v : ℕ) → ((i : ℕ) → i < n → p i ≡ true → f i ≤ v) → greatest n p f ≤ v
  unfolding greatest
  greatest_least zero v h = omega arith
  greatest_least (suc n) v h =
      let r = greatest_least n v (λ i l e. h i (omega arith) e) in
      ⊎_elim (λ (q : p n ≡ true). rw q (omega (arith, h n (omega arith) q))) (λ (q : p n ≡ false). rw q r)
      (either (p n))
