-- The first of two refusals, and what an answer tells. Assumes nothing.
use mathlib.Core.Path.{◌≡◌, refl, ap}
use mathlib.Core.Logic.{◌⊎◌, inl, inr, ◌↔◌}
use mathlib.Core.Bool.{Bool, true, false, cond}
use Prim.Native.Nat.{ℕ, zero, suc, ◌<◌, ◌≤◌}
use native.Mathlib.Omega.{arith}
use Rattle.base.specs.Answers.{first, refused_or, refused_else}

pub first_none : (r k : ℕ) → r ≡ 0 → k ≡ first r k
first_none r k e = rw e

pub first_some : (r k : ℕ) → (r ≡ 0 → ⊥) → r ≡ first r k
first_some zero k n = absurd (n refl)
first_some (suc r) k n = refl

pub both_none : (r k : ℕ) → first r k ≡ 0 → (r ≡ 0) × (k ≡ 0)
both_none zero k e = (refl, e)
both_none (suc r) k e = absurd (omega arith)

-- a check whose number is not 0 was passed
pub check_passed : (t : Bool) (r k : ℕ) → cond t (suc r) k ≡ 0 → (t ≡ false) × (k ≡ 0)
check_passed true r k e = absurd (omega arith)
check_passed false r k e = (refl, e)

pub answer_none : {A : Type 0} (r : ℕ) (x : A) → r ≡ 0 → inr x ≡ refused_or r x
answer_none r x e = rw e

pub answer_some : {A : Type 0} (r : ℕ) (x : A) → (r ≡ 0 → ⊥) → inl r ≡ refused_or r x
answer_some zero x n = absurd (n refl)
answer_some (suc r) x n = refl

pub else_none : {A : Type 0} (r : ℕ) (a : ℕ ⊎ A) → r ≡ 0 → a ≡ refused_else r a
else_none r a e = rw e

pub else_some : {A : Type 0} (r : ℕ) (a : ℕ ⊎ A) → (r ≡ 0 → ⊥) → inl r ≡ refused_else r a
else_some zero a n = absurd (n refl)
else_some (suc r) a n = refl

-- the number that an answer tells, 0 if it is no refusal
abbrev pub number_in : {A : Type 0} → ℕ ⊎ A → ℕ
number_in (inl n) = n
number_in (inr x) = 0

pub answer_tells : {A : Type 0} (r k : ℕ) (x : A) → (refused_or r x ≡ inl (suc k)) ↔ (r ≡ suc k)
answer_tells zero k x = (λ e. let z : 0 ≡ suc k = ap number_in e in absurd (omega arith), λ e. absurd (omega arith))
answer_tells (suc r) k x = (λ e. ap number_in e, λ e. ap inl e)

pub answer_given : {A : Type 0} (r : ℕ) (x y : A) → refused_or r x ≡ inr y → r ≡ 0
answer_given zero x y e = refl
answer_given (suc r) x y e = ap number_in e

-- a check with no number below k decides none of them
pub first_below_lem : (r s k n : ℕ) → (s ≡ 0) ⊎ (k ≤ s) → 0 < n → n < k → (first r s ≡ n) ↔ (r ≡ n)
first_below_lem zero s k n (inl e) z l = (λ q. absurd (omega (arith, e, q, z)), λ q. absurd (omega (arith, q, z)))
first_below_lem zero s k n (inr m) z l = (λ q. absurd (omega (arith, m, q, l)), λ q. absurd (omega (arith, q, z)))
first_below_lem (suc r) s k n h z l = (λ q. q, λ q. q)

-- no number is above m
pub first_limit : (m r s : ℕ) → r ≤ m → s ≤ m → first r s ≤ m
first_limit m zero s l k = k
first_limit m (suc r) s l k = l

pub cond_limit : (m : ℕ) (t : Bool) (r s : ℕ) → r ≤ m → s ≤ m → cond t r s ≤ m
cond_limit m true r s l k = l
cond_limit m false r s l k = k

-- a refusal is no answer; refusals that are equal, and answers
pub refused_not : {A : Type 0} {n : ℕ} {x : A} → ◌≡◌ {A = ℕ ⊎ A} (inl n) (inr x) → ⊥
refused_not e = let z : ◌≡◌ {A = ℕ} 0 1 = cc in omega arith

pub same_refusal : {A : Type 0} {n m : ℕ} → ◌≡◌ {A = ℕ ⊎ A} (inl n) (inl m) → n ≡ m
same_refusal e = cc

pub same_given : {A : Type 0} {x y : A} → ◌≡◌ {A = ℕ ⊎ A} (inr x) (inr y) → x ≡ y
same_given e = cc
