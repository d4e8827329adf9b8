-- The mask of the children that stand before one, place by place. Assumes nothing.
use mathlib.Core.Path.{◌≡◌, refl, ◌∙◌}
use mathlib.Core.Logic.{◌⊎◌, inl, inr}
use mathlib.Core.List.{List}
use Prim.Native.Nat.{ℕ, ◌+◌, ◌*◌, ◌^◌, ◌≤◌, ◌<◌}
use native.Mathlib.Omega.{arith}
use native.Mathlib.Decide.{ℕ_discrete}
use lib.Bits.{bit_or}
use lib.ListN.{length, get_or, set, length-set}
use lib.Seq.{get_or-set_same, get_or-set_other}
use Rattle.base.specs.Words.{Says}
use Rattle.base.proofs.Says.{says_map, says_none, says_set}
use Rattle.tables.specs.declared.Segment.{Segment}
use Rattle.tables.specs.Sizes.{NODES}
use Rattle.tables.specs.Represents.{before_code, code}
use Rattle.sequence_search.specs.Search.{CHILDREN, count, child_at}
use Rattle.sequence.specs.Inner.{MaskOf, MasksOf}

-- the child at place j stands before the one at place i
abbrev Stands : List ℕ → List ℕ → Segment → ℕ → ℕ → Type 0
Stands order kids s i j = code order (child_at kids s j) (child_at kids s i) ≡ before_code

-- of the places below n
pub record MaskTo (order kids : List ℕ) (s : Segment) (i n mask : ℕ) : Type 0 where
  pub says : (j : ℕ) → Says mask j ((j < n) × Stands order kids s i j)

module _ {order kids : List ℕ} {s : Segment} {i : ℕ} where
  pub mask_none : MaskTo order kids s i 0 0
  mask_none = record { says = λ j. says_none refl (λ x. omega (arith, x.0)) }

  module _ {n mask a b : ℕ} (h : MaskTo order kids s i n mask) (ea : a ≡ child_at kids s n)
      (eb : b ≡ child_at kids s i) where
    pub mask_set : {m : ℕ} → get_or order (a * NODES + b) 0 ≡ before_code → m ≡ bit_or mask (2 ^ n)
        → MaskTo order kids s i (n + 1) m
    mask_set {m} e q = record {
      says = λ j. says_map (to j, λ x. from j x (ℕ_discrete j n)) (says_set n q (h.says j));
    }
      where
        to : (j : ℕ) → ((j < n) × Stands order kids s i j) ⊎ (j ≡ n) → (j < n + 1) × Stands order kids s i j
        to j (inl x) = (omega (arith, x.0), x.1)
        to j (inr y) = (omega (arith, y), rw y (rw (ea, eb) at e))

        from : (j : ℕ) → (j < n + 1) × Stands order kids s i j → Dec (j ≡ n)
            → ((j < n) × Stands order kids s i j) ⊎ (j ≡ n)
        from j x (yes y) = inr y
        from j x (no k) = inl (omega (arith, x.0, k), x.1)

    pub mask_skip : ¬ (get_or order (a * NODES + b) 0 ≡ before_code) → MaskTo order kids s i (n + 1) mask
    mask_skip k = record {
      says = λ j. says_map (λ x. (omega (arith, x.0), x.1), λ x. from j x (ℕ_discrete j n)) (h.says j);
    }
      where
        from : (j : ℕ) → (j < n + 1) × Stands order kids s i j → Dec (j ≡ n) → (j < n) × Stands order kids s i j
        from j x (yes y) = absurd (k (rw (ea, eb) (rw y at x.1)))
        from j x (no z) = (omega (arith, x.0, z), x.1)

  -- of all places
  pub mask_whole : {n mask : ℕ} → n ≤ count s → count s ≤ n → MaskTo order kids s i n mask → MaskOf order kids s i mask
  mask_whole {n} l m h = let e : n ≡ count s = omega (arith, l, m) in record { says = rw e at h.says }

-- the masks of the places below n
pub record MasksTo (order kids : List ℕ) (s : Segment) (n : ℕ) (masks : List ℕ) : Type 0 where
  pub long : length masks ≡ CHILDREN
  pub each : (i : ℕ) → i < n → MaskOf order kids s i (get_or masks i 0)

module _ {order kids : List ℕ} {s : Segment} where
  pub masks_none : {masks : List ℕ} → length masks ≡ CHILDREN → MasksTo order kids s 0 masks
  masks_none l = record { long = l; each = λ i x. absurd (omega (arith, x)) }

  pub masks_more : {n m : ℕ} {masks : List ℕ} → n < CHILDREN → MasksTo order kids s n masks → MaskOf order kids s n m
      → MasksTo order kids s (n + 1) (set masks n m)
  masks_more {n} {m} {masks} l h o = record {
    long = length-set masks n m ∙ h.long;
    each = λ i x. at i x (ℕ_discrete i n);
  }
    where
      at : (i : ℕ) → i < n + 1 → Dec (i ≡ n) → MaskOf order kids s i (get_or (set masks n m) i 0)
      at i x (yes e) = rw (e, get_or-set_same masks n m 0 (omega (arith, h.long, l))) o
      at i x (no k) = rw (get_or-set_other masks n i m 0 k) (h.each i (omega (arith, x, k)))

  pub masks_whole : {n : ℕ} {masks : List ℕ} → n ≤ count s → count s ≤ n → MasksTo order kids s n masks
      → MasksOf order kids s masks
  masks_whole l m h = record { each = λ i x. h.each i (omega (arith, x, l, m)) }
