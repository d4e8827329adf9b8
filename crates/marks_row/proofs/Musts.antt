-- What a node must require, and must leave, from its row. Assumes nothing.
use mathlib.Core.Path.{◌≡◌, refl}
use mathlib.Core.Logic.Iff
use mathlib.Core.Logic.{◌⊎◌, inl, inr, ⊎_elim, ◌↔◌}
use mathlib.Core.Bool.{Bool, not}
use mathlib.Core.List.{List}
use Prim.Native.Nat.{ℕ, ◌+◌, ◌-◌, ◌<◌}
use native.Mathlib.Omega.{arith}
use lib.Bits.{bit_or, bit_xor}
use Rattle.base.specs.Words.{ones, Says}
use Rattle.base.proofs.Says.{says_map, says_neither}
use Rattle.runs.specs.Plan.{Plan, Node, sign_number}
use Rattle.runs.specs.WellFormed.{WellFormed}
use Rattle.runs.specs.Summary.{Must, ExternalPre, ExternalPost}
use Rattle.runs.proofs.Summary.Preconditions.{must_pre_is}
use Rattle.runs.proofs.Summary.Postconditions.{must_post_is}
use Rattle.marks_row.specs.Columns.{avoid, quiet, covered, may_post, word_at, Right}
use Rattle.runs.proofs.Plan.Numbers.{opposite}
use Rattle.marks_row.proofs.Rows.{read}

-- neither of two
both_not : {A B : Type 0} → (¬ (A ⊎ B)) ↔ ((¬ A) × (¬ B))
both_not = (λ k. (λ h. k (inl h), λ h. k (inr h)), λ k h. ⊎_elim k.0 k.1 h)

module _ {p : Plan} (w : WellFormed p) {rows : List ℕ} {n : ℕ} (r : Right p rows n) (v : Bool) (s : ℕ)
    (e : s ≡ sign_number v) {z : ℕ} (f : ℕ) (l : f < 64) where
  pub must_pre_says : Node p n → z ≡ bit_xor (bit_or (word_at rows n (1 + s)) (word_at rows n (3 + s))) ones
      → Says z f (Must p n (ExternalPre p f v))
  must_pre_says m q = says_map (Iff.trans both_not (Iff.symm (must_pre_is p w f v m)))
      (says_neither {x = word_at rows n (1 + s)} {y = word_at rows n (3 + s)} l q
      (read r (quiet v) (1 + s) _ f (omega (arith, e)) refl l)
      (read r (covered v) (3 + s) _ f (omega (arith, e)) refl l))

  pub must_post_says : z ≡ bit_xor (bit_or (word_at rows n 0) (word_at rows n (7 + (1 - s)))) ones
      → Says z f (Must p n (ExternalPost p f v))
  must_post_says q = says_map (Iff.trans both_not (Iff.symm (must_post_is p f v)))
      (says_neither {x = word_at rows n 0} {y = word_at rows n (7 + (1 - s))} l q
      (r.says avoid f l) (read r (may_post (not v)) (7 + (1 - s)) _ f (omega (arith, opposite v s e)) refl l))
