-- Bytes and their bits: a byte is the sum of its bits, and making literals true leaves bytes. Assumes nothing.
use mathlib.Core.Path.{◌≡◌}
use mathlib.Core.Logic.{by_cases, ⊎_elim}
use mathlib.Core.Bool.{Bool, true, false}
use mathlib.Core.List.{List}
use Prim.Native.Nat.{ℕ, zero, suc, ◌+◌, ◌*◌, ◌/◌, ◌%◌, ◌^◌, ◌<◌, ◌≤◌}
use native.Mathlib.Decide.{ℕ_discrete}
use native.Mathlib.Omega.{arith}
use lib.ListN.{length, get_or}
use lib.Seq.{get_or-set_same, get_or-set_other}
use lib.Bits.{or_lt, xor_lt}
use lib.Pow.{pow-lt}
use borrow.Author.Tests.{ne_eqb, lt-ltb}
use Rattle.base.specs.Bits.{bit}
use Rattle.run_flags.specs.Flags.{flag_in}
use Rattle.run_flags.specs.Inner.{with_flag, byte_with}
use Rattle.run_flags.proofs.EachFlag.{length_with}
use Rattle.base.proofs.Booleans.{either}
use Rattle.plan_codes.specs.Values.{flag_of}
use Rattle.plan_format.specs.Format.{cond_value, cond_count}
use Rattle.run_state.specs.State.{flag_shown}
use Rattle.base.specs.Count.{num}
use Rattle.run_state.specs.Made.{is_of, set_at, literals, made}
use Rattle.run_conditions.proofs.Literals.{flag_small}
use Rattle.run_calls.specs.Shown.{flag_byte}

-- ---- a byte is the sum of its bits
summed : (x a b c d e f g x0 x1 x2 x3 x4 x5 x6 : ℕ) → x ≡ x0 + 2 * a → a ≡ x1 + 2 * b → b ≡ x2 + 2 * c → c ≡ x3 + 2 * d
    → d ≡ x4 + 2 * e → e ≡ x5 + 2 * f → f ≡ x6 + 2 * g
    → x0 + 2 * x1 + 4 * x2 + 8 * x3 + 16 * x4 + 32 * x5 + 64 * x6 + 128 * g ≡ x
summed x a b c d e f g x0 x1 x2 x3 x4 x5 x6 h0 h1 h2 h3 h4 h5 h6 = omega arith

bits : (x : ℕ) → x < 256
    → x / 1 % 2 + 2 * (x / 2 % 2) + 4 * (x / 4 % 2) + 8 * (x / 8 % 2) + 16 * (x / 16 % 2) + 32 * (x / 32 % 2) + 64 *
    (x / 64 % 2) + 128 * (x / 128 % 2) ≡ x
bits x l =
    summed x (x / 2) (x / 4) (x / 8) (x / 16) (x / 32) (x / 64) (x / 128 % 2) (x / 1 % 2) (x / 2 % 2) (x / 4 % 2)
    (x / 8 % 2) (x / 16 % 2) (x / 32 % 2) (x / 64 % 2)
    (omega arith) (omega arith) (omega arith) (omega arith) (omega arith) (omega arith) (omega arith)

bit_num : (x k : ℕ) → num (bit x k) ≡ x / 2 ^ k % 2
unfolding bit
bit_num x k =
    by_cases (ℕ_discrete (x / 2 ^ k % 2) 1)
    (λ (e : x / 2 ^ k % 2 ≡ 1). rw e)
    (λ e. rw (ne_eqb (x / 2 ^ k % 2) 1 e) (omega arith))

module _ (s : List ℕ) (i : ℕ) (l : i < 8) where
  flag_bit : (k : ℕ) → k < 8 → num (flag_shown s (8 * i + k)) ≡ get_or s i 0 / 2 ^ k % 2
  unfolding flag_shown flag_in
  flag_bit k h =
      let d : (8 * i + k) / 8 ≡ i = omega arith in
      let m : (8 * i + k) % 8 ≡ k = omega arith in
      rw (lt-ltb (8 * i + k) 64 (omega arith), d, m) (bit_num (get_or s i 0) k)

  pub flag_byte_lem : get_or s i 0 < 256 → flag_byte (flag_shown s) i ≡ get_or s i 0
  unfolding flag_byte
  flag_byte_lem b =
      rw (
        flag_bit 0 (omega arith),
        flag_bit 1 (omega arith),
        flag_bit 2 (omega arith),
        flag_bit 3 (omega arith),
        flag_bit 4 (omega arith),
        flag_bit 5 (omega arith),
        flag_bit 6 (omega arith),
        flag_bit 7 (omega arith),
      )
      (bits (get_or s i 0) b)

-- ---- making literals true leaves bytes
byte_with_lem : (x k : ℕ) (v : Bool) → x < 256 → k < 8 → byte_with x k v < 256
unfolding byte_with
byte_with_lem x k true l h = or_lt 8 x (2 ^ k) l (pow-lt {i = k} {j = 8} h)
byte_with_lem x k false l h =
    ⊎_elim
    (λ (e : bit x k ≡ true). rw e (xor_lt 8 x (2 ^ k) l (pow-lt {i = k} {j = 8} h)))
    (λ (e : bit x k ≡ false). rw e l)
    (either (bit x k))

abbrev Small : List ℕ → Type 0
Small bytes = (i : ℕ) → get_or bytes i 0 < 256

with_small : (bytes : List ℕ) (f : ℕ) (v : Bool) → f / 8 < length bytes → Small bytes → Small (with_flag bytes f v)
unfolding with_flag
with_small bytes f v l h i =
    by_cases (ℕ_discrete i (f / 8))
    (λ (e : i ≡ f / 8). rw (e, get_or-set_same bytes (f / 8) (byte_with (get_or bytes (f / 8) 0) (f % 8) v) 0 l)
    (byte_with_lem (get_or bytes (f / 8) 0) (f % 8) v (h (f / 8)) (omega arith)))
    (λ e. rw (get_or-set_other bytes (f / 8) i (byte_with (get_or bytes (f / 8) 0) (f % 8) v) 0 e) (h i))

module _ (b : List ℕ) (q : ℕ) (M : ℕ → Bool) where
  literals_small : (k : ℕ) (bytes : List ℕ) → 8 ≤ length bytes → Small bytes → Small (literals b q M k bytes)
  unfolding literals
  literals_small zero bytes long h = h
  literals_small (suc k) bytes long h =
      let f = flag_of (cond_value b k) in
      ⊎_elim
      (λ (y : is_of b q M k ≡ true). rw y
      (literals_small k _ (omega (arith, length_with bytes f (set_at b k)))
      (with_small bytes f (set_at b k) (omega (arith, flag_small (cond_value b k))) h)))
      (λ (y : is_of b q M k ≡ false). rw y (literals_small k bytes long h))
      (either (is_of b q M k))

  pub made_small : (bytes : List ℕ) → 8 ≤ length bytes → Small bytes → Small (made b q M bytes)
  unfolding made
  made_small bytes long h = literals_small (cond_count b) bytes long h
