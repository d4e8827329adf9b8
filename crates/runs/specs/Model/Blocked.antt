-- The plan that is left without blocked nodes (02: struck), its marks, and refusals 28 and 29, computed. Definitions
-- only.
use Rattle.std.specs.Prelude.{Bool, cond, List, ℕ, eqb}
use Rattle.runs.specs.Searches.{either, any_below, any_in, listed}
use Rattle.runs.specs.Tests.{both, negate}
use Rattle.runs.specs.Plan.{any_of, Tree, Plan}
use Rattle.runs.specs.Summary.{Mark}
use Rattle.runs.specs.Model.Trees.{kind_b, picks_b, some_child_b, under_b}
use Rattle.runs.specs.Model.Marks.{marked_b}
use Rattle.runs.specs.Model.Monitor.{rising_b}

-- the tree with other nodes; the plan with another tree and other orders, its conditions as they were
abbrev pub within : Tree → (ℕ → Bool) → Tree
within t h = record { size = t.size; here = h; kind = t.kind; parent = t.parent }

abbrev pub over : Plan → Tree → (ℕ → ℕ → Bool) → Plan
over p t o = record { tree = t; conditions = p.conditions; order = o }

-- S tells which nodes are blocked; of a list xs of them it is `listed xs`
module _ (p : Plan) (S : ℕ → Bool) where
  -- `Stands` as a test
  unfoldable pub stands : ℕ → Bool
  stands i = both (p.tree.here i) (λ u. negate (any_below p.tree.size (λ s. both (S s) (λ u. under_b p s i))))

  -- an order of which neither node is absent
  unfoldable pub standing_order : ℕ → ℕ → Bool
  standing_order a b = both (p.order a b) (λ u. both (stands a) (λ u. stands b))

  -- the plan without the blocked nodes: "read as if their subtrees were absent" (02)
  abbrev pub without : Plan
  without = over p (within p.tree stands) standing_order

  unfoldable pub marked_under_b : ℕ → ℕ → Bool → Mark → Bool
  marked_under_b n f v m = both (stands n) (λ u. marked_b without n f v m)

-- s is the root, no node, or its parent is neither any_of nor optional
unfoldable pub unblockable_b : Plan → ℕ → Bool
unblockable_b p s = either (eqb s 0) (λ u. either (negate (p.tree.here s))
    (λ u. negate (picks_b (p.tree.kind (p.tree.parent s)))))

module _ (p : Plan) (xs : List ℕ) where
  -- `Refused28` and `Refused29` as tests
  unfoldable pub refused28_b : Bool
  refused28_b = either (negate (rising_b xs)) (λ u. any_in xs (unblockable_b p))

  unfoldable pub refused29_b : Bool
  refused29_b = any_below p.tree.size (λ g. both (stands p (listed xs) g)
      (λ u. both (kind_b (p.tree.kind g) any_of) (λ u. negate (some_child_b p g (stands p (listed xs))))))

  -- 28, then 29, or 0
  unfoldable pub blocked_refusal : ℕ
  blocked_refusal = cond refused28_b 28 (cond refused29_b 29 0)
