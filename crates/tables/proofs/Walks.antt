-- A walk over the children of a group, each worked out with all under it, and then the group itself. R says what it
-- means that a node is right, before and after. Assumes nothing.
use mathlib.Core.Path.{◌≡◌}
use mathlib.Core.Logic.{◌⊎◌, inl, inr}
use mathlib.Core.List.{List}
use Prim.Native.Nat.{ℕ, ◌+◌, ◌≤◌}
use native.Mathlib.Omega.{arith}
use lib.ListN.{get_or}
use Rattle.runs.specs.Plan.{Plan}
use Rattle.runs.proofs.Plan.Trees.{Branch, branch}
use Rattle.tables.specs.declared.Segment.{Segment}
use Rattle.tables.specs.Segments.{ChildrenOf}
use Rattle.tables.specs.Walks.{RightUnder, RightTo}
use Rattle.tables.proofs.Segments.{every_next, every_child}

module _ {p : Plan} {kids : List ℕ} {low : ℕ} {R : ℕ → Type 0} where
  pub right_none : {i : ℕ} → i ≡ low → RightTo p kids low R R i
  right_none e = record { kept = λ m r. r; right = record { each = λ j a b. absurd (omega arith) } }

  -- one child more
  pub right_more : {R' R'' : ℕ → Type 0} {i c : ℕ} → low ≤ i → c ≡ get_or kids i 0 → RightTo p kids low R R' i
      → RightUnder p R' R'' c → RightTo p kids low R R'' (i + 1)
  right_more l e h x = record {
    kept = λ m r. x.kept m (h.kept m r);
    right = (every_next l).0 (record { each = λ j a b m u. x.kept m (h.right.each j a b m u) }, rw e at x.right);
  }

-- all children, and then the group g itself
module _ {kids : List ℕ} {s : Segment} {p : Plan} {g : ℕ} (r : ChildrenOf kids s p g) where
  pub right_all : {R R' R'' : ℕ → Type 0} → RightTo p kids s.start R R' s.end → ((m : ℕ) → R' m → R'' m) → R'' g
      → RightUnder p R R'' g
  right_all {R} {R'} {R''} h keep own = record { kept = λ m x. keep m (h.kept m x); right = λ m u. at m (branch p u) }
    where
      at : (m : ℕ) → (g ≡ m) ⊎ Branch p g m → R'' m
      at m (inl e) = rw e at own
      at m (inr b) = keep m ((every_child r (λ c k. (λ y. y, λ y. y))).0 h.right b.via b.child m b.beneath)
