-- A state with an ordinal written. Assumes nothing.
use mathlib.Core.Path.{◌≡◌, refl, ap, ◌∙◌}
use mathlib.Core.List.{List, [], ◌∷◌, ◌++◌}
use Prim.Native.Nat.{ℕ, zero, suc, ◌+◌, ◌*◌, ◌/◌, ◌%◌, ◌<◌, ◌≤◌}
use native.Mathlib.Omega.{arith}
use lib.ListN.{length, get_or, set, take, drop, length-set}
use lib.Seq.{get_or-set_same, get_or-set_other}
use Rattle.plan_format.specs.Format.{u16_at, node_count}
use Rattle.run_starts.specs.Starts.{ordinal_at, ordinal_in}
use Rattle.run_starts.specs.Inner.{with_ordinal}

-- two elements written at once
pub two_written : (s : List ℕ) (i x y : ℕ) → i + 1 < length s
    → set (set s i x) (i + 1) y ≡ take i s ++ x ∷ y ∷ drop 2 (drop i s)
two_written [] i x y l = absurd (omega arith)
two_written (a ∷ []) i x y l = absurd (omega arith)
two_written (a ∷ b ∷ s) zero x y l = refl
two_written (a ∷ b ∷ s) (suc i) x y l =
    let e : suc i + 1 ≡ suc (i + 1) = omega arith in
    rw e (ap (λ (t : List ℕ). a ∷ t) (two_written (b ∷ s) i x y (omega arith)))

module _ (b s : List ℕ) (n k : ℕ) where
  abbrev z : List ℕ
  z = with_ordinal b n k s

  pub ordinal_length : length z ≡ length s
  unfolding with_ordinal
  ordinal_length = length-set (set s (ordinal_at b n) (k % 256)) (ordinal_at b n + 1) (k / 256)
      ∙ length-set s (ordinal_at b n) (k % 256)

  -- the other bytes are as they were
  elsewhere : (j : ℕ) → (j ≡ ordinal_at b n → ⊥) → (j ≡ ordinal_at b n + 1 → ⊥) → get_or z j 0 ≡ get_or s j 0
  unfolding with_ordinal
  elsewhere j h g =
      get_or-set_other (set s (ordinal_at b n) (k % 256)) (ordinal_at b n + 1) j (k / 256) 0 g
      ∙ get_or-set_other s (ordinal_at b n) j (k % 256) 0 h

  pub ordinal_before : (j : ℕ) → j < 8 + node_count b → get_or z j 0 ≡ get_or s j 0
  unfolding ordinal_at
  ordinal_before j l = elsewhere j (λ e. omega arith) (λ e. omega arith)

  module _ (l : n < node_count b) (room : 8 + 3 * node_count b ≤ length s) where
    pub ordinal_past : (j : ℕ) → 8 + 3 * node_count b ≤ j → get_or z j 0 ≡ get_or s j 0
    unfolding ordinal_at
    ordinal_past j h = elsewhere j (λ e. omega arith) (λ e. omega arith)

    pub ordinal_other : (m : ℕ) → (m ≡ n → ⊥) → ordinal_in b z m ≡ ordinal_in b s m
    unfolding ordinal_in ordinal_at u16_at
    ordinal_other m h =
        rw (
          elsewhere (8 + node_count b + 2 * m) (λ e. h (omega arith)) (λ e. omega arith),
          elsewhere (8 + node_count b + 2 * m + 1) (λ e. omega arith) (λ e. h (omega arith)),
        )

    pub ordinal_own : ordinal_in b z n ≡ k
    unfolding ordinal_in ordinal_at u16_at with_ordinal
    ordinal_own =
        let i = 8 + node_count b + 2 * n in
        let y = set s i (k % 256) in
        rw (
          get_or-set_other y (i + 1) i (k / 256) 0 (λ e. omega arith),
          get_or-set_same s i (k % 256) 0 (omega arith),
          get_or-set_same y (i + 1) (k / 256) 0 (omega (arith, length-set s i (k % 256))),
        ) (omega arith)
