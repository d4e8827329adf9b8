-- Pairs that rise from each to the next rise from each to every later one. Assumes nothing.
use mathlib.Core.Path.{◌≡◌, ap}
use mathlib.Core.Logic.{◌⊎◌, inl, inr, ⊎_elim, by_cases}
use mathlib.Core.Bool.{false}
use mathlib.Core.List.{List}
use Prim.Native.Nat.{ℕ, zero, suc, ◌+◌, ◌-◌, ◌<◌, ◌≤◌}
use native.Mathlib.Nat.{eq-or-lt_of_le, le_of_suc-le-suc}
use native.Mathlib.Numerals.{add-one}
use native.Mathlib.Decide.{dec_lt, ℕ_discrete}
use native.Mathlib.Omega.{arith}
use lib.Dec.{eqb, ltb}
use borrow.Author.Tests.{eqb-true, ltb-true, not-false}
use Rattle.plan_format.specs.Format.{cond_count, cond_node, cond_value}
use Rattle.plan_rules.specs.Rules.{not_below, not_rising, cause10}
use Rattle.runs.specs.Searches.{any_below}
use Rattle.base.proofs.Booleans.{or_split, and_both}
use Rattle.runs.proofs.Searches.{none_at}

-- the pair (a, b) is below (c, d)
abbrev pub Below : ℕ → ℕ → ℕ → ℕ → Type 0
Below a b c d = (a < c) ⊎ ((a ≡ c) × (b < d))

below_of : (a b c d : ℕ) → not_below a b c d ≡ false → Below a b c d
unfolding not_below
below_of a b c d h =
    ⊎_elim (λ l. inl (ltb-true a c l))
    (λ e. let w = and_both (eqb a c) (ltb b d) e in inr (eqb-true a c w.0, ltb-true b d w.1))
    (or_split (ltb a c) _ (not-false _ h))

below_trans : (a b c d e f : ℕ) → Below a b c d → Below c d e f → Below a b e f
below_trans a b c d e f (inl l) (inl m) = inl (omega arith)
below_trans a b c d e f (inl l) (inr m) = inl (omega arith)
below_trans a b c d e f (inr l) (inl m) = inl (omega arith)
below_trans a b c d e f (inr l) (inr m) = inr (omega arith, omega arith)

module _ (x y : ℕ → ℕ) (n : ℕ) (h : any_below (n - 1) (not_rising x y) ≡ false) where
  next : (i : ℕ) → i + 1 < n → Below (x i) (y i) (x (i + 1)) (y (i + 1))
  unfolding not_rising
  next i l = below_of _ _ _ _ (none_at (n - 1) (not_rising x y) h i (omega arith))

  pub rising : (i j : ℕ) → i < j → j < n → Below (x i) (y i) (x j) (y j)
  rising i zero l m = absurd (omega arith)
  rising i (suc j) l m =
      let k : Below (x j) (y j) (x (suc j)) (y (suc j)) = rw (add-one j) at (next j (omega arith)) in
      ⊎_elim
      (λ (e : i ≡ j). rw e k)
      (λ (q : i < j). below_trans (x i) (y i) (x j) (y j) _ _ (rising i j q (omega arith)) k)
      (eq-or-lt_of_le (le_of_suc-le-suc l))

  pub first_rises : (i j : ℕ) → i ≤ j → j < n → x i ≤ x j
  first_rises i j l m =
      ⊎_elim (λ (e : i ≡ j). omega (arith, ap x e))
      (λ q. ⊎_elim (λ a. omega arith) (λ a. omega arith) (rising i j q m))
      (eq-or-lt_of_le l)

  -- of two pairs with the same first part the one with the lower second part comes first
  pub comes_first : (i j : ℕ) → i < n → j < n → x i ≡ x j → y i < y j → i < j
  comes_first i j l m e q =
      by_cases (dec_lt i j) (λ (k : i < j). k)
      (λ k.
      by_cases (ℕ_discrete i j) (λ (r : i ≡ j). absurd (omega (arith, ap y r)))
      (λ r. absurd (⊎_elim (λ a. omega arith) (λ a. omega arith) (rising j i (omega arith) l))))

-- conditions stand in the order of their nodes
pub nodes_rise : (b : List ℕ) → cause10 b ≡ false → (i j : ℕ) → i ≤ j → j < cond_count b → cond_node b i ≤ cond_node b j
unfolding cause10
nodes_rise b h i j l m = first_rises (cond_node b) (cond_value b) (cond_count b) h i j l m
