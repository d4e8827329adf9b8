-- Words as numbers: words with the same bits are equal; a word without the bits of another. Assumes nothing.
use mathlib.Core.Path.{◌≡◌, refl, sym, ap, ◌∙◌}
use mathlib.Core.Bool.{Bool, true, false, ◌&&◌}
use Prim.Native.Nat.{ℕ, zero, suc, ◌+◌, ◌^◌, ◌/◌, ◌%◌, ◌<◌}
use native.Mathlib.Nat.{pow-suc}
use native.Mathlib.Omega.{arith}
use lib.Dec.{T, eqb}
use lib.Pow.{pow_pos, shr-shr}
use lib.Bits.{bit_and, bit_or, bit_xor, and_le_l, and_le_r, or_add_and, xor_add_and}
use borrow.Author.Tests.{eqb-true, eqb-false}
use Rattle.base.specs.Bits.{bit}
use Rattle.base.proofs.Bits.{bit_and_lem, bit_none}

-- two digits that are 1 together are equal
same_digit : (a b : ℕ) → a < 2 → b < 2 → (t : Bool) → eqb a 1 ≡ t → eqb b 1 ≡ t → a ≡ b
same_digit a b la lb true p q = omega (arith, eqb-true a 1 p, eqb-true b 1 q)
same_digit a b la lb false p q = omega (arith, eqb-false a 1 p, eqb-false b 1 q)

pub same_bits : (k x y : ℕ) → x < 2 ^ k → y < 2 ^ k → ((f : ℕ) → f < k → bit x f ≡ bit y f) → x ≡ y
unfolding bit
same_bits zero x y lx ly h = omega arith
same_bits (suc k) x y lx ly h =
    let low : x / 2 ^ 0 % 2 ≡ y / 2 ^ 0 % 2 =
    same_digit (x / 2 ^ 0 % 2) (y / 2 ^ 0 % 2) (omega arith) (omega arith) _ refl (sym (h 0 (omega arith))) in
    let half : x / 2 ≡ y / 2 = same_bits k (x / 2) (y / 2) (omega (arith, pow-suc 2 k)) (omega (arith, pow-suc 2 k))
    (λ f m. ap (λ (w : ℕ). eqb (w % 2) 1) (shr-shr x 1 f) ∙ h (1 + f) (omega arith)
    ∙ sym (ap (λ (w : ℕ). eqb (w % 2) 1) (shr-shr y 1 f))) in
    omega arith

false_of : (b : Bool) → ¬ T b → b ≡ false
false_of true k = absurd (k tt)
false_of false k = refl

-- a word with no bit is zero, and so is any number
no_bits_below : (k w : ℕ) → w < 2 ^ k → ((f : ℕ) → f < k → ¬ T (bit w f)) → w ≡ 0
no_bits_below k w l h = same_bits k w 0 l (pow_pos k) (λ f m. false_of (bit w f) (h f m) ∙ sym (bit_none f))

pub no_bits : (w : ℕ) → w < 2 ^ 64 → ((f : ℕ) → f < 64 → ¬ T (bit w f)) → w ≡ 0
no_bits = no_bits_below 64

pub no_bit_at_all : (w : ℕ) → ((f : ℕ) → ¬ T (bit w f)) → w ≡ 0
no_bit_at_all w h = no_bits_below w w (below w) (λ f m. h f)
  where
    below : (n : ℕ) → n < 2 ^ n
    below zero = omega arith
    below (suc n) = omega (arith, pow-suc 2 n, below n)

pub or_zero : (x y : ℕ) → bit_or x y ≡ 0 → (x ≡ 0) × (y ≡ 0)
or_zero x y e = omega (arith, or_add_and x y, and_le_l x y, and_le_r x y)

-- x without the bits of y, and the bits that they have in common, make x
pub less_add : (x y : ℕ) → x < 2 ^ 64 → bit_xor x (bit_and x y) + bit_and x y ≡ x
less_add x y l = omega (arith, xor_add_and x (bit_and x y), inner, and_le_l x y)
  where
    twice : (a b : Bool) → (a && (a && b)) ≡ (a && b)
    twice true b = refl
    twice false b = refl

    inner : bit_and x (bit_and x y) ≡ bit_and x y
    inner = same_bits 64 _ _ (omega (arith, and_le_l x (bit_and x y))) (omega (arith, and_le_l x y))
        (λ f m. bit_and_lem x (bit_and x y) f ∙ ap (λ (b : Bool). bit x f && b) (bit_and_lem x y f)
        ∙ twice (bit x f) (bit y f)
        ∙ sym (bit_and_lem x y f))
