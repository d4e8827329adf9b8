-- The bits of a word, as equations of tests. Assumes nothing.
use mathlib.Core.Path.{◌≡◌, refl, ap, ◌∙◌}
use mathlib.Core.Logic.{by_cases}
use mathlib.Core.Bool.{Bool, true, false, not, ◌&&◌, ◌||◌}
use native.Mathlib.Decide.{dec_lt}
use Prim.Native.Nat.{ℕ, zero, suc, ◌+◌, ◌*◌, ◌-◌, ◌^◌, ◌/◌, ◌%◌, ◌<◌, min, max}
use native.Mathlib.Nat.{div_self, div-eq_of_lt, mul-div_cancel, mul-mod_left, one-mul}
use native.Mathlib.Omega.{arith}
use lib.Dec.{eqb}
use lib.Pow.{pow_pos, pow-lt, pow-add, shl_exact, ones_split, ones_lt, high}
use lib.Bits.{bit_and, bit_or, bit_xor, differ, and_step, and_shr, or_step, or_shr, xor_step, xor_shr}
use Rattle.base.specs.Bits.{bit}
use Rattle.base.specs.Words.{ones}

-- what holds of the digits 0 and 1 holds of two digits
two_digits : (P : ℕ → ℕ → Type 0) → P 0 0 → P 0 1 → P 1 0 → P 1 1 → (a b : ℕ) → a < 2 → b < 2 → P a b
two_digits P p q r s zero zero h k = p
two_digits P p q r s zero (suc zero) h k = q
two_digits P p q r s (suc zero) zero h k = r
two_digits P p q r s (suc zero) (suc zero) h k = s
two_digits P p q r s (suc (suc a)) b h k = absurd (omega arith)
two_digits P p q r s zero (suc (suc b)) h k = absurd (omega arith)
two_digits P p q r s (suc zero) (suc (suc b)) h k = absurd (omega arith)

abbrev pub xor : Bool → Bool → Bool
xor true b = not b
xor false b = b

and_digit : (a b : ℕ) → a < 2 → b < 2 → (min a b < 2) × (eqb (min a b) 1 ≡ (eqb a 1 && eqb b 1))
and_digit = two_digits (λ a b. (min a b < 2) × (eqb (min a b) 1 ≡ (eqb a 1 && eqb b 1))) (omega arith, refl)
    (omega arith, refl) (omega arith, refl) (omega arith, refl)

or_digit : (a b : ℕ) → a < 2 → b < 2 → (max a b < 2) × (eqb (max a b) 1 ≡ (eqb a 1 || eqb b 1))
or_digit = two_digits (λ a b. (max a b < 2) × (eqb (max a b) 1 ≡ (eqb a 1 || eqb b 1))) (omega arith, refl)
    (omega arith, refl) (omega arith, refl) (omega arith, refl)

xor_digit : (a b : ℕ) → a < 2 → b < 2 → (differ a b < 2) × (eqb (differ a b) 1 ≡ xor (eqb a 1) (eqb b 1))
xor_digit = two_digits (λ a b. (differ a b < 2) × (eqb (differ a b) 1 ≡ xor (eqb a 1) (eqb b 1))) (omega arith, refl)
    (omega arith, refl) (omega arith, refl) (omega arith, refl)

-- the lowest digit of a word whose digits were worked out one by one
digit : (r d w : ℕ) → w ≡ r * 2 + d → d < 2 → w % 2 ≡ d
digit r d w e h = omega arith

pub bit_and_lem : (x y f : ℕ) → bit (bit_and x y) f ≡ (bit x f && bit y f)
unfolding bit
bit_and_lem x y f =
    let a = x / 2 ^ f in
    let b = y / 2 ^ f in
    let d = and_digit (a % 2) (b % 2) (omega arith) (omega arith) in
    rw (and_shr x y f, digit (bit_and (a / 2) (b / 2)) (min (a % 2) (b % 2)) (bit_and a b) (and_step a b) d.0) d.1

pub bit_or_lem : (x y f : ℕ) → bit (bit_or x y) f ≡ (bit x f || bit y f)
unfolding bit
bit_or_lem x y f =
    let a = x / 2 ^ f in
    let b = y / 2 ^ f in
    let d = or_digit (a % 2) (b % 2) (omega arith) (omega arith) in
    rw (or_shr x y f, digit (bit_or (a / 2) (b / 2)) (max (a % 2) (b % 2)) (bit_or a b) (or_step a b) d.0) d.1

pub bit_xor_lem : (x y f : ℕ) → bit (bit_xor x y) f ≡ xor (bit x f) (bit y f)
unfolding bit
bit_xor_lem x y f =
    let a = x / 2 ^ f in
    let b = y / 2 ^ f in
    let d = xor_digit (a % 2) (b % 2) (omega arith) (omega arith) in
    rw (xor_shr x y f, digit (bit_xor (a / 2) (b / 2)) (differ (a % 2) (b % 2)) (bit_xor a b) (xor_step a b) d.0)
    d.1

xor_and : (a b : Bool) → xor a (a && b) ≡ (a && not b)
xor_and true b = refl
xor_and false b = refl

xor_true : (a : Bool) → xor a true ≡ not a
xor_true true = refl
xor_true false = refl

-- x and not y
pub bit_less : (x y f : ℕ) → bit (bit_xor x (bit_and x y)) f ≡ (bit x f && not (bit y f))
bit_less x y f = bit_xor_lem x (bit_and x y) f ∙ ap (xor (bit x f)) (bit_and_lem x y f) ∙ xor_and (bit x f) (bit y f)

pub bit_none : (f : ℕ) → bit 0 f ≡ false
unfolding bit
bit_none f = rw (div-eq_of_lt (pow_pos f))

ones_low : (j : ℕ) → 0 < j → (2 ^ j - 1) % 2 ≡ 1
ones_low j h =
    let e : j ≡ j - 1 + 1 = omega arith in
    rw e (omega (arith, ones_split (j - 1) 1))

pub bit_all : (f : ℕ) → f < 64 → bit ones f ≡ true
unfolding bit
bit_all f h =
    let e : 64 - f + f ≡ 64 = omega arith in
    let s : 2 ^ 64 - 1 ≡ (2 ^ (64 - f) - 1) * 2 ^ f + (2 ^ f - 1) = rw e at (ones_split (64 - f) f) in
    ap (λ (x : ℕ). eqb (x / 2 ^ f % 2) 1) s
    ∙ rw (high (2 ^ (64 - f) - 1) f (ones_lt f), ones_low (64 - f) (omega arith))

-- not x
pub bit_not : (x f : ℕ) → f < 64 → bit (bit_xor x ones) f ≡ not (bit x f)
bit_not x f h = bit_xor_lem x ones f ∙ ap (xor (bit x f)) (bit_all f h) ∙ xor_true (bit x f)

-- one bit
pub one_same : (k : ℕ) → bit (2 ^ k) k ≡ true
unfolding bit
one_same k = rw (div_self (pow_pos k))

pub one_other : (k f : ℕ) → (f ≡ k → ⊥) → bit (2 ^ k) f ≡ false
unfolding bit
one_other k f h =
    by_cases (dec_lt f k) (λ (l : f < k).
    let e : k ≡ (k - f - 1) + 1 + f = omega arith in
    rw (
      e,
      pow-add 2 (k - f - 1 + 1) f,
      mul-div_cancel (2 ^ (k - f - 1 + 1)) (pow_pos f),
      pow-add 2 (k - f - 1) 1,
      mul-mod_left (2 ^ (k - f - 1)) 2,
    ))
    (λ l. rw (div-eq_of_lt (pow-lt {i = k} {j = f} (omega arith))))

-- `1 << k`
pub one_shl : (k : ℕ) → k < 64 → (1 * 2 ^ k) % 2 ^ 64 ≡ 2 ^ k
one_shl k h = shl_exact 1 k 64 (omega arith) (omega arith) ∙ one-mul (2 ^ k)
