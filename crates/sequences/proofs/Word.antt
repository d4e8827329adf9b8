-- A list of nodes as a word: one node more is a shift by eight bits, and a sequence is read back from its word.
use Prim.Native.Nat.{◌*◌, ◌^◌, ◌/◌, ◌%◌, ◌-◌}
use native.Mathlib.Nat.{mul_assoc}
use lib.Bits.{bit_or, or_shifted}
use lib.Pow.{pow-add, pow_mono, shl_exact, high, low}
use Rattle.runs.proofs.Base.{◌≡◌, refl, sym, ap, ◌∙◌, List, [], ◌∷◌, Among, here, there, ℕ, suc, ◌+◌, ◌<◌, ◌≤◌}
use Rattle.runs.proofs.Base.{arith, length}
use Rattle.sequences.specs.Word.{packed, sequence_word, low_bytes, sequence_in}

-- one byte more is eight bits more
byte_more : (n : ℕ) → 2 ^ (8 * suc n) ≡ 2 ^ (8 * n) * 256
byte_more n = let e : 8 * suc n ≡ 8 * n + 8 = omega arith in ap (λ (k : ℕ). 2 ^ k) e ∙ pow-add 2 (8 * n) 8

-- `(w << 8) | c`, where w has n bytes
module _ (n : ℕ) {w c : ℕ} (lw : w < 2 ^ (8 * n)) (lc : c < 256) where
  pub one_byte_more : n < 8 → bit_or ((w * 2 ^ 8) % 2 ^ 64) c ≡ w * 256 + c
  one_byte_more l = ap (λ (x : ℕ). bit_or x c) (shl_exact (8 * n) 8 64 lw (omega (arith, l))) ∙ or_shifted w 8 c lc

  pub bytes_lt : w * 256 + c < 2 ^ (8 * suc n)
  bytes_lt = omega (arith, byte_more n, lw, lc)

-- all numbers of the list are bytes
abbrev pub Bytes : List ℕ → Type 0
Bytes xs = (c : ℕ) → Among c xs → c < 256

packed_lt : (xs : List ℕ) → Bytes xs → packed xs < 2 ^ (8 * length xs)
unfolding packed
packed_lt [] h = omega arith
packed_lt (c ∷ xs) h = bytes_lt (length xs) (packed_lt xs (λ d i. h d (there i))) (h c (here refl))

-- the bytes of a list, with anything above them
low_bytes_lem : (xs : List ℕ) (m : ℕ) → Bytes xs → low_bytes (length xs) (m * 2 ^ (8 * length xs) + packed xs) ≡ xs
unfolding packed low_bytes
low_bytes_lem [] m h = refl
low_bytes_lem (c ∷ xs) m h =
    let rest = m * 2 ^ (8 * length xs) + packed xs in
    let all = m * 2 ^ (8 * suc (length xs)) + (packed xs * 256 + c) in
    let e : all ≡ rest * 256 + c = omega
    (arith, ap (λ (x : ℕ). m * x) (byte_more (length xs)), mul_assoc m (2 ^ (8 * length xs)) 256) in
    ap (λ (x : ℕ). x ∷ low_bytes (length xs) (all / 256)) (ap (λ (x : ℕ). x % 256) e ∙ low rest 8 (h c (here refl)))
    ∙ ap (λ (x : ℕ). c ∷ low_bytes (length xs) x) (ap (λ (x : ℕ). x / 256) e ∙ high rest 8 (h c (here refl)))
    ∙ ap (λ (ys : List ℕ). c ∷ ys) (low_bytes_lem xs m (λ d i. h d (there i)))

module _ (xs : List ℕ) (h : Bytes xs) (l : length xs ≤ 7) where
  small : packed xs < 2 ^ 56
  small =
      let le : 2 ^ (8 * length xs) ≤ 2 ^ 56 = pow_mono {i = 8 * length xs} {j = 56} (omega (arith, l)) in
      omega (arith, packed_lt xs h, le)

  -- nothing is lost: a sequence of at most seven nodes can be read back from its word
  pub read_back : sequence_in (sequence_word xs) ≡ xs
  read_back =
      let n = length xs in
      let above : 56 ≡ (56 - 8 * n) + 8 * n = omega (arith, l) in
      let e : n * 2 ^ 56 ≡ n * 2 ^ (56 - 8 * n) * 2 ^ (8 * n) =
      ap (λ (k : ℕ). n * 2 ^ k) above ∙ ap (λ (x : ℕ). n * x) (pow-add 2 (56 - 8 * n) (8 * n))
      ∙ sym (mul_assoc n (2 ^ (56 - 8 * n)) (2 ^ (8 * n))) in
      ap (λ (k : ℕ). low_bytes k (sequence_word xs)) (high n 56 small)
      ∙ ap (λ (x : ℕ). low_bytes n (x + packed xs)) e
      ∙ low_bytes_lem xs (n * 2 ^ (56 - 8 * n)) h
