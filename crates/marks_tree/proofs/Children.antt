-- The rows of a group's children, one after another, and then the group's own. Assumes nothing.
use mathlib.Core.Path.{◌≡◌, refl, sym, ◌∙◌}
use mathlib.Core.Logic.{◌≢◌}
use mathlib.Core.List.{List}
use Prim.Native.Nat.{ℕ, ◌+◌, ◌<◌}
use native.Mathlib.Decide.{ℕ_discrete}
use native.Mathlib.Omega.{arith}
use lib.ListN.{length, get_or}
use Rattle.base.proofs.Says.{says_eq}
use Rattle.runs.specs.Plan.{Kind, task, all_of, any_of, optional, Picks, Plan, Node, itself}
use Rattle.runs.specs.Numbers.{kind_number}
use Rattle.runs.specs.WellFormed.{WellFormed}
use Rattle.runs.proofs.Plan.Trees.{under_root}
use Rattle.runs.proofs.Plan.Numbers.{kind_inj}
use Rattle.runs.proofs.Execution.Final.{under_task}
use Rattle.tables.specs.declared.Segment.{Segment}
use Rattle.tables.specs.Segments.{segment_of, Position}
use Rattle.tables.specs.Represents.{RepresentsKinds, RepresentsConditions, Represents}
use Rattle.marks_row.specs.Columns.{index_of, Right, Row, RowWritten}
use Rattle.marks_row.specs.Tasks.{AtTask}
use Rattle.marks_siblings.specs.Group.{Group}
use Rattle.marks_row.proofs.Rows.{index_small, written_right, written_keeps}
use Rattle.tables.proofs.Segments.{has_children, listed, every_child}
use Rattle.tables.proofs.Walks.{right_more, right_all}
use Rattle.marks_group.specs.Groups.{AnyRow}
use Rattle.marks_tree.specs.Clobbers.{AllOfRow}
use Rattle.marks_tree.specs.Filled.{Given, OfAny, ChildrenTo, Filled, TasksFilled, AllFilled, BelowFilled}

-- in every plan that the table of kinds represents, the kind of c is in K
abbrev pub OfKind : List ℕ → ℕ → (Kind → Type 0) → Type 0
OfKind kind c K = (p : Plan) → RepresentsKinds kind p → Node p c → K (p.tree.kind c)

-- a kind by its code
module _ (kind : List ℕ) (c : ℕ) where
  pub is_all : get_or kind c 0 ≡ 1 → OfKind kind c (λ k. k ≡ all_of)
  is_all e p r l = kind_inj (p.tree.kind c) all_of (sym (r.is c l) ∙ e)

  pub is_choice_lem : get_or kind c 0 ≢ 1 → get_or kind c 0 ≢ 0 → OfKind kind c Picks
  is_choice_lem a b p r l = at (p.tree.kind c) (λ e. a (r.is c l ∙ e)) (λ e. b (r.is c l ∙ e))
    where
      at : (k : Kind) → kind_number k ≢ 1 → kind_number k ≢ 0 → Picks k
      at task a b = absurd (b refl)
      at all_of a b = absurd (a refl)
      at any_of a b = tt
      at optional a b = tt

  pub is_task : get_or kind c 0 ≡ 0 → OfKind kind c (λ k. k ≡ task)
  is_task e p r l = kind_inj (p.tree.kind c) task (sym (r.is c l) ∙ e)

-- a task, whose row stands
pub task_filled : {kind from kids order rows : List ℕ} {n node : ℕ} → length rows ≡ 2944
    → Filled (λ k. k ≡ task) kind from kids order rows rows n node
task_filled {node = node} e = record {
  long = e;
  under = λ p g k. record {
    kept = λ m x. x;
    right = λ m u. rw (under_task p g.well_formed k u) at (g.tasks node g.is_node k);
  };
}

-- the kind is known
pub any_kind : {kind from kids order rows rows' : List ℕ} {n node : ℕ} {K : Kind → Type 0} → OfKind kind node K
    → Filled K kind from kids order rows rows' n node → Filled OfAny kind from kids order rows rows' n node
any_kind is x = record { long = x.long; under = λ p g k. x.under p g (is p g.kinds g.is_node) }

module _ (kind from kids order : List ℕ) (n node : ℕ) (segment : Segment) where
  -- one child more
  pub child_more : {rows₀ rows rows' : List ℕ} {i c : ℕ} → segment ≡ segment_of from node → c ≡ get_or kids i 0
      → Position segment i → ChildrenTo kind from kids order n node segment rows₀ rows i
      → Filled OfAny kind from kids order rows rows' n c
      → ChildrenTo kind from kids order n node segment rows₀ rows' (i + 1)
  child_more {rows₀} {rows} {c = c} z e at h x = record {
    long = x.long;
    walked = λ p g. right_more at.low e (h.walked p g) (x.under p (given p g) tt);
  }
    where
      given : (p : Plan) → Given kind from kids order rows₀ n node p → Given kind from kids order rows n c p
      given p g = record {
        well_formed = g.well_formed;
        kinds = g.kinds;
        tree = g.tree;
        orders = g.orders;
        is_node = (listed (has_children g.tree g.is_node z) e at).node;
        tasks = λ t l k. (h.walked p g).kept t (g.tasks t l k);
      }

  module _ {rows₀ rows rows' words : List ℕ} (z : segment ≡ segment_of from node)
      (h : ChildrenTo kind from kids order n node segment rows₀ rows segment.end)
      (x : RowWritten rows rows' node words) where
    -- all children are right
    group : (p : Plan) → Given kind from kids order rows₀ n node p → Group kids segment rows p node
    group p g = record {
      well_formed = g.well_formed;
      node = g.is_node;
      listed = has_children g.tree g.is_node z;
      children = λ c hc. (every_child (has_children g.tree g.is_node z) (λ b hb. (λ y. y, λ y. y))).0
          (h.walked p g).right c hc c itself;
    }

    filled : (K : Kind → Type 0) → ((p : Plan) → Given kind from kids order rows₀ n node p → K (p.tree.kind node)
        → Row p node words)
        → Filled K kind from kids order rows₀ rows' n node
    filled K r = record {
      long = x.long;
      under = λ p g q. right_all (has_children g.tree g.is_node z) (h.walked p g) (written_keeps x (r p g q))
          (written_right x (r p g q));
    }

    pub all_filled : AllOfRow kids segment order rows words
        → Filled (λ k. k ≡ all_of) kind from kids order rows₀ rows' n node
    all_filled r = filled (λ k. k ≡ all_of) (λ p g. r p node (record { group = group p g; orders = g.orders }))

    pub any_filled : {k : ℕ} → k ≡ get_or kind node 0 → AnyRow k kids segment rows words
        → Filled Picks kind from kids order rows₀ rows' n node
    any_filled e r = filled Picks (λ p g m. r p node (group p g) m (e ∙ g.kinds.is node g.is_node))

-- the tasks below i
module _ {kind conds rows : List ℕ} where
  pub task_more : {i : ℕ} {rows' rows'' words : List ℕ} → rows'' ≡ rows' → TasksFilled kind conds rows i
      → RowWritten rows rows' i words
      → ((p : Plan) → AtTask conds i p → Row p i words) → TasksFilled kind conds rows'' (i + 1)
  task_more {i} {rows'} e h x r =
      rw e (record { long = x.long; right = λ p w k c t l n q. at p w k c t l n q (ℕ_discrete t i) })
    where
      at : (p : Plan) → WellFormed p → RepresentsKinds kind p → RepresentsConditions conds p → (t : ℕ) → t < i + 1
          → Node p t → p.tree.kind t ≡ task
          → Dec (t ≡ i) → Right p rows' t
      at p w k c t l n q (yes e) = rw e
          (written_right x (r p (record { well_formed = w; conditions = c; node = rw e at n; is_task = rw e at q })))
      at p w k c t l n q (no ne) = record {
        says = λ col f m. says_eq (x.there t (index_of col) (index_small col) ne)
            ((h.right p w k c t (omega arith) n q).says col f m);
      }

  pub task_skip : {i : ℕ} {rows'' : List ℕ} → rows'' ≡ rows → TasksFilled kind conds rows i → get_or kind i 0 ≢ 0
      → TasksFilled kind conds rows'' (i + 1)
  task_skip {i} e h z = rw e (record { long = h.long; right = λ p w k c t l n q. at p w k c t l n q (ℕ_discrete t i) })
    where
      at : (p : Plan) → WellFormed p → RepresentsKinds kind p → RepresentsConditions conds p → (t : ℕ) → t < i + 1
          → Node p t → p.tree.kind t ≡ task
          → Dec (t ≡ i) → Right p rows t
      at p w k c t l n q (yes e) = let y : get_or kind i 0 ≡ kind_number task = rw (q, e) at (k.is t n) in absurd (z y)
      at p w k c t l n q (no ne) = h.right p w k c t (omega arith) n q

-- all nodes, once the root is worked out or its children are
module _ {kind from kids order conds rows : List ℕ} {n : ℕ} (t : TasksFilled kind conds rows n) where
  given : (p : Plan) → WellFormed p → Represents kind from kids order conds n p
      → Given kind from kids order rows n 0 p
  given p w r = record {
    well_formed = w;
    kinds = r.kinds;
    tree = r.tree;
    orders = r.orders;
    is_node = w.root_node;
    tasks = λ u l k. t.right p w r.kinds r.conditions u (rw r.tree.size at (w.node_below u l)) l k;
  }

  pub all_nodes : {rows' : List ℕ} → Filled OfAny kind from kids order rows rows' n 0
      → AllFilled kind from kids order conds rows' n
  all_nodes x = record {
    long = x.long;
    right = λ p w r m l. (x.under p (given p w r) tt).right m (under_root p w m l);
  }

  pub nodes_below : {rows' : List ℕ} {segment : Segment} → segment ≡ segment_of from 0
      → ChildrenTo kind from kids order n 0 segment rows rows' segment.end
      → BelowFilled kind from kids order conds rows' n
  nodes_below {rows'} z h = record {
    long = h.long;
    right = λ p w r m l. let g = given p w r in
        (right_all (has_children g.tree g.is_node z) {R'' = λ k. k ≢ 0 → Right p rows' k} (h.walked p g)
        (λ k x ne. x) (λ ne. absurd (ne refl))).right m (under_root p w m l);
  }
