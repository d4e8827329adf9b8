-- Blocked branches (02: struck nodes): what stands, the marks of what is left, refusals 28 and 29. Definitions only.
use Rattle.std.specs.Prelude.{◌≡◌, Bool, ℕ, T}
use mathlib.Core.List.{List, Memᴰ as Among}
use Rattle.runs.specs.Searches.{listed}
use Rattle.runs.specs.Plan.{any_of, Picks, Plan, Node, Child, Under}
use Rattle.runs.specs.Summary.{Mark, Marked}
use Rattle.runs.specs.Calls.{Rising}
use Rattle.runs.specs.Model.Blocked.{without}

-- S tells which nodes are blocked; of a list xs of them it is `listed xs`
module _ (p : Plan) (S : ℕ → Bool) where
  -- 02's "neither struck nor under a struck node"
  pub record Stands (i : ℕ) : Type 0 where
    pub node : Node p i
    pub outside : (s : ℕ) → T (S s) → ¬ Under p s i

  -- a mark under blocked nodes: "the sheet of every such node is all zero" (02); another node has the marks that it has
  -- in the plan without them
  abbrev pub MarkedUnder : ℕ → ℕ → Bool → Mark → Type 0
  MarkedUnder n f v m = Node (without p S) n × Marked (without p S) n f v m

module _ (p : Plan) (xs : List ℕ) where
  -- 28: the list "does not strictly rise or names the root, no node of the book, or a node whose parent is neither
  -- any_of nor perhaps"
  pub data Refused28 : Type 0 where
    not_rising : ¬ Rising xs → Refused28
    names_root : Among 0 xs → Refused28
    no_node : (s : ℕ) → Among s xs → ¬ Node p s → Refused28
    no_choice : (s : ℕ) → Among s xs → ¬ Picks (p.tree.kind (p.tree.parent s)) → Refused28

  -- 29: "an any_of group neither struck nor under a struck node has no branch left"
  pub data Refused29 : Type 0 where
    no_branch : (g : ℕ) → Stands p (listed xs) g → p.tree.kind g ≡ any_of
        → ((c : ℕ) → Child p g c → ¬ Stands p (listed xs) c) → Refused29
