-- The words of marks: where each stands, and which columns it is made of. Assumes nothing.
use mathlib.Core.Path.{◌≡◌, refl, sym}
use mathlib.Core.Logic.{◌⊎◌, inl, inr, ◌↔◌}
use mathlib.Core.Bool.{Bool, true, false, true≢false}
use mathlib.Core.List.{List}
use Prim.Native.Nat.{ℕ, zero, suc, ◌+◌, ◌/◌, ◌%◌, ◌<◌}
use native.Mathlib.Omega.{arith}
use lib.Bits.{bit_and, bit_or, bit_xor}
use lib.ListN.{get_or}
use Rattle.base.specs.Words.{Says}
use Rattle.base.proofs.Says.{says_map, says_and, says_or, says_less}
use Rattle.runs.specs.Plan.{Plan, sign_number}
use Rattle.runs.specs.Summary.{Mark, may_pre, must_pre, may_post, must_post, may_inc, must_inc, may_clobber}
use Rattle.runs.specs.Summary.{must_clobber, byte_of, Marked}
use Rattle.runs.specs.Numbers.{mark_at}
use Rattle.runs.specs.Model.Verdicts.{Fails}
use Rattle.marks_row.specs.Columns as columns
use Rattle.marks_row.specs.Columns.{Right, word_at}
use Rattle.marks_words.specs.Words.{word_index, first_words, MarkWords, StartWord}

pub mark_small : (m : Mark) → byte_of m < 8
mark_small may_pre = omega arith
mark_small must_pre = omega arith
mark_small may_post = omega arith
mark_small must_post = omega arith
mark_small may_inc = omega arith
mark_small must_inc = omega arith
mark_small may_clobber = omega arith
mark_small must_clobber = omega arith

pub mark_byte : (m : Mark) → mark_at (byte_of m) ≡ m
mark_byte may_pre = refl
mark_byte must_pre = refl
mark_byte may_post = refl
mark_byte must_post = refl
mark_byte may_inc = refl
mark_byte must_inc = refl
mark_byte may_clobber = refl
mark_byte must_clobber = refl

pub byte_mark : (k : ℕ) → k < 8 → byte_of (mark_at k) ≡ k
byte_mark zero l = refl
byte_mark (suc zero) l = refl
byte_mark (suc (suc zero)) l = refl
byte_mark (suc (suc (suc zero))) l = refl
byte_mark (suc (suc (suc (suc zero)))) l = refl
byte_mark (suc (suc (suc (suc (suc zero))))) l = refl
byte_mark (suc (suc (suc (suc (suc (suc zero)))))) l = refl
byte_mark (suc (suc (suc (suc (suc (suc (suc zero))))))) l = refl
byte_mark (suc (suc (suc (suc (suc (suc (suc (suc k)))))))) l = absurd (omega arith)

-- word k is for sign k / 8 and mark k % 8
module _ {k : ℕ} (v : Bool) (m : Mark) (e : k ≡ word_index v m) where
  pub sign_is : k / 8 ≡ sign_number v
  sign_is = omega (arith, e, mark_small m)

  pub mark_is : k % 8 ≡ byte_of m
  mark_is = omega (arith, e, mark_small m)

-- the marks that have a column
module _ {p : Plan} {rows : List ℕ} {n : ℕ} (r : Right p rows n) where
  pub column_says : (v : Bool) (m : Mark) → (byte_of m ≡ 1 → ⊥) → (byte_of m ≡ 3 → ⊥) → (f : ℕ) → f < 64
      → Says (word_at rows n (get_or first_words (byte_of m) 0 + sign_number v)) f (Marked p n f v m)
  column_says v may_pre a b f l = r.says (columns.may_pre v) f l
  column_says v must_pre a b f l = absurd (a refl)
  column_says v may_post a b f l = r.says (columns.may_post v) f l
  column_says v must_post a b f l = absurd (b refl)
  column_says v may_inc a b f l = r.says (columns.may_inc v) f l
  column_says v must_inc a b f l = r.says (columns.must_inc v) f l
  column_says v may_clobber a b f l = r.says (columns.may_clobber v) f l
  column_says v must_clobber a b f l = r.says (columns.must_clobber v) f l

-- the literals that fail: one with the mark, or one that is false at the start and has the other mark
clear_start : (b : Bool) → (¬ (b ≡ true)) ↔ (b ≡ false)
clear_start true = (λ k. absurd (k refl), λ e. absurd (true≢false e))
clear_start false = (λ k. refl, λ e z. true≢false (sym z))

module _ {p : Plan} {F : ℕ → Bool} {words : List ℕ} {start : ℕ} (w : MarkWords p 0 words) (s : StartWord F start)
    (m k : Mark) where
  abbrev Signs : ℕ → Type 0
  Signs f = (Marked p 0 f false m ⊎ Marked p 0 f true m)
      ⊎ ((Marked p 0 f false k × (F f ≡ true)) ⊎ (Marked p 0 f true k × (¬ (F f ≡ true))))

  split : (f : ℕ) → Signs f ↔ ((v : Bool) × Fails p F m k f v)
  split f = (to, λ x. from x.0 x.1)
    where
      to : Signs f → (v : Bool) × Fails p F m k f v
      to (inl (inl x)) = (false, inl x)
      to (inl (inr x)) = (true, inl x)
      to (inr (inl x)) = (false, inr (x.1, x.0))
      to (inr (inr x)) = (true, inr ((clear_start (F f)).0 x.1, x.0))

      from : (v : Bool) → Fails p F m k f v → Signs f
      from false (inl x) = inl (inl x)
      from true (inl x) = inl (inr x)
      from false (inr x) = inr (inl (x.1, x.0))
      from true (inr x) = inr (inr (x.1, (clear_start (F f)).1 x.0))

  word_says : (v : Bool) (q : Mark) {i : ℕ} → i ≡ word_index v q → (f : ℕ) → f < 64
      → Says (get_or words i 0) f (Marked p 0 f v q)
  word_says v q e f l = rw e (w.says v q f l)

  pub failing_says : {i j marked clear set r : ℕ} → i ≡ byte_of m → j ≡ byte_of k
      → marked ≡ bit_or (get_or words i 0) (get_or words (i + 8) 0)
      → clear ≡ bit_and (get_or words j 0) start
      → set ≡ bit_xor (get_or words (j + 8) 0) (bit_and (get_or words (j + 8) 0) start)
      → r ≡ bit_or marked (bit_or clear set) → (f : ℕ) → f < 64 → Says r f ((v : Bool) × Fails p F m k f v)
  failing_says ei ej a b c d f l =
      says_map (split f)
      (says_or d (says_or a (word_says false m (omega (arith, ei)) f l) (word_says true m (omega (arith, ei)) f l))
      (says_or refl (says_and b (word_says false k (omega (arith, ej)) f l) (s.says f l))
      (says_less c (word_says true k (omega (arith, ej)) f l) (s.says f l))))
