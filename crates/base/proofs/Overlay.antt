-- The laws of `overlay`. Assumes nothing.
use mathlib.Core.Path.{◌≡◌, refl, ◌∙◌}
use mathlib.Core.Logic.{by_cases}
use mathlib.Core.List.{List}
use Prim.Native.Nat.{ℕ, zero, suc, ◌+◌, ◌<◌, ◌≤◌}
use native.Mathlib.Decide.{ℕ_discrete}
use native.Mathlib.Numerals.{add-one}
use native.Mathlib.Omega.{arith}
use lib.ListN.{length, get_or, set, length-set}
use lib.Seq.{get_or-set_same, get_or-set_other}
use Rattle.base.specs.Answers.{overlay}

module _ (f : ℕ → ℕ) (xs : List ℕ) where
  pub overlay_none : xs ≡ overlay f 0 xs
  unfolding overlay
  overlay_none = refl

  pub overlay_more : (n : ℕ) → set (overlay f n xs) n (f n) ≡ overlay f (n + 1) xs
  unfolding overlay
  overlay_more n = rw add-one

  pub length_overlay : (n : ℕ) → length (overlay f n xs) ≡ length xs
  unfolding overlay
  length_overlay zero = refl
  length_overlay (suc n) = length-set (overlay f n xs) n (f n) ∙ length_overlay n

  pub at_overlay : (n k : ℕ) → n ≤ length xs → k < n → get_or (overlay f n xs) k 0 ≡ f k
  unfolding overlay
  at_overlay zero k h l = absurd (omega arith)
  at_overlay (suc n) k h l =
      by_cases (ℕ_discrete k n)
      (λ e. rw (e, get_or-set_same (overlay f n xs) n (f n) 0 (omega (arith, length_overlay n))))
      (λ e. get_or-set_other (overlay f n xs) n k (f n) 0 e ∙ at_overlay n k (omega arith) (omega arith))

  -- the elements from n on are kept
  pub past_overlay : (n k : ℕ) → n ≤ k → get_or (overlay f n xs) k 0 ≡ get_or xs k 0
  unfolding overlay
  past_overlay zero k l = refl
  past_overlay (suc n) k l = get_or-set_other (overlay f n xs) n k (f n) 0 (λ e. omega arith)
      ∙ past_overlay n k (omega arith)
