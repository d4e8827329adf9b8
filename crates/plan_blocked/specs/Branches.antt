-- What refusal 29 asks of a group, by tables that mark the nodes that stand and the groups that have a child that
-- stands. Definitions only.
use Rattle.std.specs.Prelude.{Bool, not, ◌&&◌, List, ◌≡◌, ℕ, ◌<◌}
use Rattle.plan_format.specs.Format.{node_count, parent_of, is_kind}
use Rattle.node_sets.specs.Sets.{marked}
use Rattle.plan_check.specs.Meaning.{plan_of}
use Rattle.runs.specs.Model.Trees.{some_child_b}
use Rattle.runs.specs.Model.Blocked.{stands}

-- marks of the groups that have a child that stands where the nodes in S are blocked
pub record WithBranch (b : List ℕ) (S : ℕ → Bool) (marks : List ℕ) : Type 0 where
  pub is : (g : ℕ) → g < node_count b → marked marks g ≡ some_child_b (plan_of b) g (stands (plan_of b) S)

-- the parent of s stands, is an any-of group, and no child of it stands
unfoldable pub emptied_at : List ℕ → List ℕ → List ℕ → ℕ → Bool
emptied_at b table marks s = marked table (parent_of b s) && is_kind b (parent_of b s) 2
    && not (marked marks (parent_of b s))
