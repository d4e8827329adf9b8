-- What 28 and 29 leave of a plan, and what blocking more branches or adding orders keeps. Definitions only.
use Rattle.std.specs.Prelude.{◌≡◌, Bool, ℕ, ◌<◌, T}
use Rattle.runs.specs.Plan.{any_of, Picks, Plan, Node, Child}
use Rattle.runs.specs.Verdict.{Clear, Doomed}
use Rattle.runs.specs.Blocked.{Stands}
use Rattle.runs.specs.Model.Blocked.{stands, without}

module _ (p : Plan) (S : ℕ → Bool) where
  -- what 28 and 29 leave, but for the order of the list: a blocked node is one of the plan, not the root, and its
  -- parent is an any_of or optional group; an any_of group that stands has a branch left
  pub record Blocks : Type 0 where
    pub node : (s : ℕ) → T (S s) → Node p s
    pub not_root : (s : ℕ) → T (S s) → 0 < s
    pub of_choice : (s : ℕ) → T (S s) → Picks (p.tree.kind (p.tree.parent s))
    pub branch_left : (g : ℕ) → T (stands p S g) → p.tree.kind g ≡ any_of → (c : ℕ) × Child (without p S) g c

-- going from p to q leaves CLEAR as CLEAR and DOOMED as DOOMED
pub record Keeps (p q : Plan) : Type 0 where
  pub clear : (F : ℕ → Bool) → Clear p F → Clear q F
  pub doomed : (F : ℕ → Bool) → Doomed p F → Doomed q F

-- 02's "striking more branches": each node that S blocks is blocked or under a blocked node where the nodes in R are
-- (blocking a choice above it will do as well as blocking it)
abbrev pub BlocksMore : Plan → (ℕ → Bool) → (ℕ → Bool) → Type 0
BlocksMore p S R = (s : ℕ) → T (S s) → ¬ Stands p R s

-- r is p with orders added. (Kinds and parents are compared at the nodes: past them plans may say anything.)
pub record OrdersAdded (p r : Plan) : Type 0 where
  pub same_nodes : (i : ℕ) → p.tree.here i ≡ r.tree.here i
  pub same_kind : (i : ℕ) → Node p i → p.tree.kind i ≡ r.tree.kind i
  pub same_parent : (i : ℕ) → 0 < i → Node p i → p.tree.parent i ≡ r.tree.parent i
  pub same_conditions : p.conditions ≡ r.conditions
  pub no_order_lost : (a b : ℕ) → T (p.order a b) → T (r.order a b)
