-- The literals of an event written one by one, from the last condition to the first: what they leave of each flag.
-- Assumes nothing.
use mathlib.Core.Path.{◌≡◌, refl, ◌∙◌}
use mathlib.Core.Logic.{⊎_elim, by_cases}
use mathlib.Core.Bool.{Bool, true, false}
use mathlib.Core.List.{List}
use Prim.Native.Nat.{ℕ, zero, suc, ◌+◌, ◌/◌, ◌<◌, ◌≤◌}
use native.Mathlib.Decide.{ℕ_discrete}
use native.Mathlib.Numerals.{add-one}
use native.Mathlib.Omega.{arith}
use lib.ListN.{length}
use Rattle.plan_codes.specs.Values.{flag_of}
use Rattle.run_flags.specs.Flags.{flag_in}
use Rattle.run_flags.specs.Inner.{with_flag}
use Rattle.run_flags.proofs.EachFlag.{length_with, with_same, with_other}
use Rattle.plan_format.specs.Format.{cond_count, cond_value}
use Rattle.base.proofs.Booleans.{either}
use Rattle.run_state.specs.Made.{is_of, set_at, literals, made}

pub flag_small : (v : ℕ) → flag_of v < 64
unfolding flag_of
flag_small v = omega arith

-- ---- turn by turn, from the last condition to the first
module _ (b : List ℕ) (q : ℕ) (M : ℕ → Bool) where
  pub literals_none : (bytes : List ℕ) → literals b q M 0 bytes ≡ bytes
  unfolding literals
  literals_none bytes = refl

  literals_more : (k : ℕ) (bytes : List ℕ) → is_of b q M k ≡ true
      → literals b q M (k + 1) bytes ≡ literals b q M k (with_flag bytes (flag_of (cond_value b k)) (set_at b k))
  unfolding literals
  literals_more k bytes y = rw (add-one k, y)

  pub literals_kept : (k : ℕ) (bytes : List ℕ) → is_of b q M k ≡ false
      → literals b q M (k + 1) bytes ≡ literals b q M k bytes
  unfolding literals
  literals_kept k bytes y = rw (add-one k, y)

  -- a turn, by what the loop has at hand
  pub literals_turn : (k : ℕ) (bytes : List ℕ) (f : ℕ) (v : Bool) → f ≡ flag_of (cond_value b k) → v ≡ set_at b k
      → is_of b q M k ≡ true → literals b q M (k + 1) bytes ≡ literals b q M k (with_flag bytes f v)
  literals_turn k bytes f v e1 e2 y = rw (e1, e2) (literals_more k bytes y)

  pub length_literals : (k : ℕ) (bytes : List ℕ) → length (literals b q M k bytes) ≡ length bytes
  unfolding literals
  length_literals zero bytes = refl
  length_literals (suc k) bytes =
      ⊎_elim
      (λ (y : is_of b q M k ≡ true). rw y (length_literals k _
      ∙ length_with bytes (flag_of (cond_value b k)) (set_at b k)))
      (λ (y : is_of b q M k ≡ false). rw y (length_literals k bytes))
      (either (is_of b q M k))

  -- where no condition is of such a task, nothing is written
  pub literals_idle : (k : ℕ) (bytes : List ℕ) → ((i : ℕ) → i < k → is_of b q M i ≡ false)
      → literals b q M k bytes ≡ bytes
  unfolding literals
  literals_idle zero bytes h = refl
  literals_idle (suc k) bytes h = rw (h k (omega arith)) (literals_idle k bytes (λ i l. h i (omega arith)))

  -- ---- each flag
  module _ (f : ℕ) (v : Bool) where
    inside : (k : ℕ) (bytes : List ℕ) → 8 ≤ length bytes → flag_of (cond_value b k) / 8 < length bytes
    inside k bytes long = omega (arith, flag_small (cond_value b k))

    -- a flag that has the sign of every literal on it keeps it
    pub literals_keep : (k : ℕ) (bytes : List ℕ) → 8 ≤ length bytes → flag_in bytes f ≡ v
        → ((i : ℕ) → i < k → is_of b q M i ≡ true → f ≡ flag_of (cond_value b i) → set_at b i ≡ v)
        → flag_in (literals b q M k bytes) f ≡ v
    unfolding literals
    literals_keep zero bytes long e h = e
    literals_keep (suc k) bytes long e h =
        ⊎_elim
        (λ (y : is_of b q M k ≡ true). rw y
        (literals_keep k _ (omega (arith, length_with bytes (flag_of (cond_value b k)) (set_at b k)))
        (by_cases (ℕ_discrete f (flag_of (cond_value b k)))
        (λ (z : f ≡ flag_of (cond_value b k)). rw z
        (with_same bytes (flag_of (cond_value b k)) (set_at b k) (inside k bytes long)) ∙ h k (omega arith) y z)
        (λ z. with_other bytes (flag_of (cond_value b k)) (set_at b k) (inside k bytes long) f z ∙ e))
        (λ i l. h i (omega arith))))
        (λ (y : is_of b q M k ≡ false). rw y (literals_keep k bytes long e (λ i l. h i (omega arith))))
        (either (is_of b q M k))

    -- and one on which there is a literal has it afterwards
    pub literals_same : (k j : ℕ) (bytes : List ℕ) → 8 ≤ length bytes → j < k → is_of b q M j ≡ true
        → f ≡ flag_of (cond_value b j)
        → ((i : ℕ) → i < k → is_of b q M i ≡ true → f ≡ flag_of (cond_value b i) → set_at b i ≡ v)
        → flag_in (literals b q M k bytes) f ≡ v
    unfolding literals
    literals_same zero j bytes long l o e h = absurd (omega arith)
    literals_same (suc k) j bytes long l o e h =
        by_cases (ℕ_discrete j k)
        (λ (z : j ≡ k).
        let y : is_of b q M k ≡ true = rw z at o in
        let x : f ≡ flag_of (cond_value b k) = rw z at e in
        rw y
        (literals_keep k _ (omega (arith, length_with bytes (flag_of (cond_value b k)) (set_at b k)))
        (rw x (with_same bytes (flag_of (cond_value b k)) (set_at b k) (inside k bytes long)) ∙ h k (omega arith) y x)
        (λ i m. h i (omega arith))))
        (λ z.
        ⊎_elim
        (λ (y : is_of b q M k ≡ true). rw y
        (literals_same k j _ (omega (arith, length_with bytes (flag_of (cond_value b k)) (set_at b k)))
        (omega arith) o e (λ i m. h i (omega arith))))
        (λ (y : is_of b q M k ≡ false). rw y
        (literals_same k j bytes long (omega arith) o e (λ i m. h i (omega arith))))
        (either (is_of b q M k)))

pub made_length : (b : List ℕ) (q : ℕ) (M : ℕ → Bool) (bytes : List ℕ) → length (made b q M bytes) ≡ length bytes
unfolding made
made_length b q M bytes = length_literals b q M (cond_count b) bytes
