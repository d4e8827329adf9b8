-- What the theory asks of a plan, and what the rules of the bytes leave. Definitions only.
use Rattle.std.specs.Prelude.{◌≡◌, ◌≢◌, Bool, ℕ, ◌<◌, T}
use Rattle.std.proofs.Math.Option.{some}
use Rattle.runs.specs.Plan.{task, all_of, any_of, Place, inc, post, Plan, Node, Child}

module _ (p : Plan) where
  -- What the theory asks of a plan; refusals 7, 8, 9, 12 and 13 leave it (`Accepted`, below). The rank stands for the
  -- node's number, so that orders may also run against the numbers.
  pub record WellFormed : Type 0 where
    pub root_node : Node p 0
    pub node_below : (n : ℕ) → Node p n → n < p.tree.size
    pub parent_lower : (n : ℕ) → 0 < n → Node p n → p.tree.parent n < n
    pub parent_node : (n : ℕ) → 0 < n → Node p n → Node p (p.tree.parent n)
    pub parent_group : (n : ℕ) → 0 < n → Node p n → p.tree.kind (p.tree.parent n) ≢ task
    -- each all_of or any_of group has a child, but for an all_of root, which may have none
    pub some_branch : (g : ℕ) → Node p g → p.tree.kind g ≡ any_of → (c : ℕ) × Child p g c
    pub some_part : (g : ℕ) → 0 < g → Node p g → p.tree.kind g ≡ all_of → (c : ℕ) × Child p g c
    pub order_group : (a b : ℕ) → T (p.order a b) → (g : ℕ) × (p.tree.kind g ≡ all_of) × Child p g a × Child p g b
    pub on_task : (k : Place) (t f : ℕ) (v : Bool) → p.conditions.sign k t f ≡ some v
        → (t < p.tree.size) × (p.tree.kind t ≡ task) × (f < p.conditions.flags)
    pub inc_post : (t f : ℕ) (v : Bool) → p.conditions.sign inc t f ≡ some v
        → (u : Bool) × (p.conditions.sign post t f ≡ some u)
    pub rank : ℕ → ℕ
    pub rank_below : (n : ℕ) → Node p n → rank n < p.tree.size
    pub rank_rises : (a b : ℕ) → T (p.order a b) → rank a < rank b

  -- What refusals 7, 8, 9, 12 and 13 leave, in 01's words. (10, 11 and 14 are no matter here: `sign` gives one sign,
  -- `order` has no repetitions.)
  pub record Accepted : Type 0 where
    pub nodes : (n : ℕ) → (Node p n → n < p.tree.size) × (n < p.tree.size → Node p n)
    pub some_node : 0 < p.tree.size
    -- 7: a parent is a group of a lower number
    pub parent_lower : (n : ℕ) → 0 < n → n < p.tree.size
        → (p.tree.parent n < n) × (p.tree.kind (p.tree.parent n) ≢ task)
    -- 8: a group has a child
    pub has_child : (g : ℕ) → g < p.tree.size → p.tree.kind g ≢ task → (c : ℕ) × Child p g c
    -- 9: a condition is on a task and a flag of the plan
    pub on_task : (k : Place) (t f : ℕ) (v : Bool) → p.conditions.sign k t f ≡ some v
        → (t < p.tree.size) × (p.tree.kind t ≡ task) × (f < p.conditions.flags)
    -- 12: a hold is on a flag that the task has a leaving on
    pub inc_post : (t f : ℕ) (v : Bool) → p.conditions.sign inc t f ≡ some v
        → (u : Bool) × (p.conditions.sign post t f ≡ some u)
    -- 13: an order is between children of one all_of group, the earlier number the lower
    pub orders : (a b : ℕ) → T (p.order a b)
        → (a < b) × ((g : ℕ) × (p.tree.kind g ≡ all_of) × Child p g a × Child p g b)
