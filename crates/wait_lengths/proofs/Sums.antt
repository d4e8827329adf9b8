-- Sums over the numbers below n. Assumes nothing.
use mathlib.Core.Path.{◌≡◌, refl}
use mathlib.Core.Logic.{by_cases}
use Prim.Native.Nat.{ℕ, zero, suc, ◌+◌, ◌*◌, ◌<◌, ◌≤◌}
use native.Mathlib.Decide.{ℕ_discrete}
use native.Mathlib.Omega.{arith}

unfoldable pub sum : ℕ → (ℕ → ℕ) → ℕ
sum zero f = 0
sum (suc n) f = sum n f + f n

pub sum_grows : (f : ℕ → ℕ) (n m : ℕ) → n ≤ m → sum n f ≤ sum m f
unfolding sum
sum_grows f n zero l = let e : n ≡ 0 = omega arith in rw e (omega arith)
sum_grows f n (suc m) l =
    by_cases (ℕ_discrete n (suc m)) (λ (e : n ≡ suc m). rw e (omega arith))
    (λ e. omega (arith, sum_grows f n m (omega arith)))

pub sum_le : (n : ℕ) (f : ℕ → ℕ) → ((i : ℕ) → i < n → f i ≤ 10080) → sum n f ≤ n * 10080
unfolding sum
sum_le zero f h = omega arith
sum_le (suc n) f h = omega (arith, sum_le n f (λ i l. h i (omega arith)), h n (omega arith))

pub sum_more : (n : ℕ) (f : ℕ → ℕ) → sum (suc n) f ≡ sum n f + f n
unfolding sum
sum_more n f = refl

pub sum_has : (n i : ℕ) (f : ℕ → ℕ) → i < n → f i ≤ sum n f
sum_has n i f l = omega (arith, sum_grows f (suc i) n l, sum_more i f)

-- two sums and two others, term by term
pub sum_balance : (n : ℕ) (f g h k : ℕ → ℕ) → ((i : ℕ) → i < n → f i + g i ≡ h i + k i)
    → sum n f + sum n g ≡ sum n h + sum n k
unfolding sum
sum_balance zero f g h k e = refl
sum_balance (suc n) f g h k e = omega (arith, sum_balance n f g h k (λ i l. e i (omega arith)), e n (omega arith))

pub sum_none : (n : ℕ) (f : ℕ → ℕ) → ((i : ℕ) → i < n → f i ≡ 0) → sum n f ≡ 0
unfolding sum
sum_none zero f h = refl
sum_none (suc n) f h = omega (arith, sum_none n f (λ i l. h i (omega arith)), h n (omega arith))

-- one term
pub sum_one : (n m : ℕ) (f : ℕ → ℕ) → m < n → ((i : ℕ) → i < n → (i ≡ m → ⊥) → f i ≡ 0) → sum n f ≡ f m
unfolding sum
sum_one zero m f l h = absurd (omega arith)
sum_one (suc n) m f l h =
    by_cases (ℕ_discrete m n)
    (λ (e : m ≡ n). rw e (omega (arith, sum_none n f (λ i q. h i (omega arith) (λ z. omega arith)))))
    (λ e. omega (arith, sum_one n m f (omega arith) (λ i q. h i (omega arith)), h n (omega arith) (λ z. omega arith)))

pub sum_same : (n : ℕ) (f g : ℕ → ℕ) → ((i : ℕ) → i < n → f i ≡ g i) → sum n f ≡ sum n g
unfolding sum
sum_same zero f g h = refl
sum_same (suc n) f g h = rw (h n (omega arith), sum_same n f g (λ i l. h i (omega arith)))
