-- What making a literal true does to each flag, and the flags of eight equal bytes. Assumes nothing.
use mathlib.Core.Path.{◌≡◌, refl, ◌∙◌}
use mathlib.Core.Logic.{by_cases}
use mathlib.Core.Bool.{Bool, true, false, cond, or-true, or-false}
use mathlib.Core.List.{List}
use Prim.Native.Nat.{ℕ, zero, suc, ◌/◌, ◌%◌, ◌^◌, ◌<◌}
use native.Mathlib.Decide.{ℕ_discrete}
use native.Mathlib.Omega.{arith}
use lib.ListN.{length, get_or, take, length-set, replicate, get_or-replicate}
use lib.Seq.{get_or-set_same, get_or-set_other, get_or-take}
use lib.Bits.{bit_xor}
use Rattle.base.specs.Bits.{bit}
use Rattle.base.proofs.Bits.{xor, bit_or_lem, bit_xor_lem, bit_none, one_same, one_other}
use Rattle.run_flags.specs.Flags.{flag_in}
use Rattle.run_flags.specs.Inner.{with_flag, byte_with, all_byte}

xor_false : (a : Bool) → xor a false ≡ a
xor_false true = refl
xor_false false = refl

-- bit k cleared, if it is set
cleared_same : (x k : ℕ) (b : Bool) → bit x k ≡ b → bit (cond b (bit_xor x (2 ^ k)) x) k ≡ false
cleared_same x k true e = bit_xor_lem x (2 ^ k) k ∙ rw (e, one_same k)
cleared_same x k false e = e

cleared_other : (x k g : ℕ) (b : Bool) → (g ≡ k → ⊥) → bit (cond b (bit_xor x (2 ^ k)) x) g ≡ bit x g
cleared_other x k g true h = bit_xor_lem x (2 ^ k) g ∙ rw (one_other k g h) (xor_false (bit x g))
cleared_other x k g false h = refl

byte_same : (x k : ℕ) (s : Bool) → bit (byte_with x k s) k ≡ s
unfolding byte_with
byte_same x k true = bit_or_lem x (2 ^ k) k ∙ rw (one_same k) (or-true (bit x k))
byte_same x k false = cleared_same x k (bit x k) refl

byte_other : (x k g : ℕ) (s : Bool) → (g ≡ k → ⊥) → bit (byte_with x k s) g ≡ bit x g
unfolding byte_with
byte_other x k g true h = bit_or_lem x (2 ^ k) g ∙ rw (one_other k g h) (or-false (bit x g))
byte_other x k g false h = cleared_other x k g (bit x k) h

module _ (bytes : List ℕ) (f : ℕ) (s : Bool) where
  pub length_with : length (with_flag bytes f s) ≡ length bytes
  unfolding with_flag
  length_with = length-set bytes (f / 8) _

  module _ (inside : f / 8 < length bytes) where
    pub with_same : flag_in (with_flag bytes f s) f ≡ s
    unfolding with_flag flag_in
    with_same = rw get_or-set_same (byte_same (get_or bytes (f / 8) 0) (f % 8) s)

    pub with_other : (g : ℕ) → (g ≡ f → ⊥) → flag_in (with_flag bytes f s) g ≡ flag_in bytes g
    unfolding with_flag flag_in
    with_other g h =
        by_cases (ℕ_discrete (g / 8) (f / 8))
        (λ e. rw (e, get_or-set_same) (byte_other (get_or bytes (f / 8) 0) (f % 8) (g % 8) s (λ d. h (omega arith))))
        (λ e. rw (get_or-set_other bytes (f / 8) (g / 8) _ 0 e))

-- only the byte of a flag matters
pub same_byte : (a b : List ℕ) (f : ℕ) → get_or a (f / 8) 0 ≡ get_or b (f / 8) 0 → flag_in a f ≡ flag_in b f
unfolding flag_in
same_byte a b f e = rw e

pub in_first : (bytes : List ℕ) (f : ℕ) → f < 64 → flag_in (take 8 bytes) f ≡ flag_in bytes f
in_first bytes f l = same_byte (take 8 bytes) bytes f (get_or-take 8 bytes (f / 8) 0 (omega arith))

all_bits : (s : Bool) (k : ℕ) → k < 8 → bit (all_byte s) k ≡ s
unfolding bit
all_bits false k l = bit_none k
all_bits true zero l = refl
all_bits true (suc zero) l = refl
all_bits true (suc (suc zero)) l = refl
all_bits true (suc (suc (suc zero))) l = refl
all_bits true (suc (suc (suc (suc zero)))) l = refl
all_bits true (suc (suc (suc (suc (suc zero))))) l = refl
all_bits true (suc (suc (suc (suc (suc (suc zero)))))) l = refl
all_bits true (suc (suc (suc (suc (suc (suc (suc zero))))))) l = refl
all_bits true (suc (suc (suc (suc (suc (suc (suc (suc k)))))))) l = absurd (omega arith)

pub all_flags : (s : Bool) (f : ℕ) → f < 64 → flag_in (replicate 8 (all_byte s)) f ≡ s
unfolding flag_in
all_flags s f l = rw (get_or-replicate 8 (f / 8) (all_byte s) 0 (omega arith)) (all_bits s (f % 8) (omega arith))
