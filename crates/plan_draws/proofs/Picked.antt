-- The numbers that pass a test, in rising order. Assumes nothing.
use Rattle.std.proofs.Common.{◌≡◌, ℕ, zero, suc, ◌+◌, ◌<◌, ◌≤◌, Bool, true, false, cond, ◌&&◌, eqb, refl, ◌∙◌, arith}
use Rattle.std.proofs.Common.{eq-eqb, ne_eqb}
use mathlib.Core.Logic.{by_cases}
use native.Mathlib.Decide.{ℕ_discrete, dec_lt}
use Rattle.base.specs.Count.{num, count_below}
use Rattle.plan_draws.specs.Model.{pick}

pub record Picked (q : ℕ → Bool) (n m x : ℕ) : Type 0 where
  pub below : x < n
  pub passes : q x ≡ true
  pub place : count_below x q ≡ m

pub picked : (q : ℕ → Bool) (n m : ℕ) → m < count_below n q → Picked q n m (pick q n m)
unfolding pick count_below
picked q zero m l = absurd (omega arith)
picked q (suc n) m l = at (q n) refl (ℕ_discrete (count_below n q) m) (λ k. picked q n m k)
  where
    less : Picked q n m (pick q n m) → Picked q (suc n) m (pick q n m)
    less x = record { below = omega (arith, x.below); passes = x.passes; place = x.place }

    at : (b : Bool) → q n ≡ b → Dec (count_below n q ≡ m) → (m < count_below n q → Picked q n m (pick q n m))
        → Picked q (suc n) m (cond (q n && eqb (count_below n q) m) n (pick q n m))
    at true e (yes z) ih = rw (e, eq-eqb (count_below n q) m z) (record { below = omega arith; passes = e; place = z })
    at true e (no z) ih = rw (e, ne_eqb (count_below n q) m z) (less (ih (let y = rw e at l in omega arith)))
    at false e d ih = rw e (less (ih (let y = rw e at l in omega arith)))

count_rises : (q : ℕ → Bool) (x y : ℕ) → x ≤ y → count_below x q ≤ count_below y q
unfolding count_below
count_rises q x zero l = let e : x ≡ 0 = omega arith in rw e (omega arith)
count_rises q x (suc y) l = at (ℕ_discrete x (suc y)) (λ k. count_rises q x y k)
  where
    at : Dec (x ≡ suc y) → (x ≤ y → count_below x q ≤ count_below y q) → count_below x q ≤ count_below y q + num (q y)
    at (yes e) ih = rw e (omega arith)
    at (no ne) ih = omega (arith, ih (omega arith))

pub pick_rises : (q : ℕ → Bool) (n m k : ℕ) → m < k → k < count_below n q → pick q n m < pick q n k
pick_rises q n m k l h =
    let x = picked q n m (omega arith) in
    let y = picked q n k h in
    by_cases (dec_lt (pick q n m) (pick q n k)) (λ (z : pick q n m < pick q n k). z)
    (λ z. absurd (omega (arith, x.place, y.place, count_rises q (pick q n k) (pick q n m) (omega arith))))

-- ---- a table of them is filled by going through the numbers once
-- a number that passes comes next
pub pick_new : (q : ℕ → Bool) (i : ℕ) → q i ≡ true → pick q (suc i) (count_below i q) ≡ i
unfolding pick
pick_new q i e = rw (e, eq-eqb (count_below i q) (count_below i q) refl)

-- those that were found stay
pub pick_stays : (q : ℕ → Bool) (i n m : ℕ) → i ≤ n → m < count_below i q → pick q n m ≡ pick q i m
unfolding pick
pick_stays q i zero m l h = let e : i ≡ 0 = omega arith in rw e
pick_stays q i (suc n) m l h = at (ℕ_discrete i (suc n)) (λ k. pick_stays q i n m k h)
  where
    off : (x : Bool) → cond (x && false) n (pick q n m) ≡ pick q n m
    off true = refl
    off false = refl

    at : Dec (i ≡ suc n) → (i ≤ n → pick q n m ≡ pick q i m)
        → cond (q n && eqb (count_below n q) m) n (pick q n m) ≡ pick q i m
    at (yes e) ih = rw e
    at (no ne) ih = rw (ne_eqb (count_below n q) m (λ z. omega (arith, h, count_rises q i n (omega arith), z)))
        (off (q n) ∙ ih (omega arith))
