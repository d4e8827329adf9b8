-- Not x, `!x`, and neither of two words, as exclusive ors. Assumes nothing.
use mathlib.Core.Path.{◌≡◌}
use Prim.Native.Nat.{ℕ, ◌-◌, ◌^◌, ◌<◌}
use native.Mathlib.Omega.{arith}
use lib.Bits.{bit_or, bit_xor, xor_add_and}
use Rattle.std.proofs.lemmas.Nat.{and_mask, or_lt}
use Rattle.base.specs.Words.{ones}

pub not_is : (x : ℕ) → x < 2 ^ 64 → ones - x ≡ bit_xor x ones
not_is x l = omega (arith, xor_add_and x ones, and_mask x 64)

pub neither_is : (x y : ℕ) → x < 2 ^ 64 → y < 2 ^ 64 → ones - bit_or x y ≡ bit_xor (bit_or x y) ones
neither_is x y l m = not_is (bit_or x y) (or_lt 64 x y l m)
