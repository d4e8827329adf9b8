-- The tables of a plan are tables of what is left of it without blocked nodes, if that of the children has only the
-- nodes that stand. Assumes nothing.
use mathlib.Core.Path.{◌≡◌, sym, subst, fun_ext}
use mathlib.Core.Logic.Iff
use mathlib.Core.Logic.{by_cases}
use mathlib.Core.Bool.{Bool, false}
use mathlib.Core.List.{List}
use Prim.Native.Nat.{ℕ, ◌<◌}
use native.Mathlib.Decide.{dec_lt}
use native.Mathlib.Omega.{arith}
use lib.Dec.{T}
use borrow.Author.Tests.{lt-ltb, le-ltb}
use Rattle.node_sets.specs.Sets.{marked}
use Rattle.plan_format.specs.Format.{node_count}
use Rattle.plan_rules.specs.Rules.{refusal}
use Rattle.base.proofs.Booleans.{not_passed}
use Rattle.plan_check.specs.Meaning.{plan_of}
use Rattle.plan_check.proofs.Meaning.{means_well_formed}
use Rattle.plan_check.proofs.Nodes.{node_is}
use Rattle.runs.specs.Tests.{both}
use Rattle.runs.specs.Plan.{Node}
use Rattle.runs.specs.WellFormed.{WellFormed}
use Rattle.runs.specs.Blocked.{Stands}
use Rattle.runs.specs.Branches.{Blocks}
use Rattle.runs.specs.Model.Blocked.{within, over, stands, without}
use Rattle.runs.proofs.Reflect.{true_T}
use Rattle.runs.proofs.Blocked.Standing.{r_stands, r_standing_order}
use Rattle.runs.proofs.Blocked.Branches.{before_standing}
use Rattle.tables.specs.Represents.{Represents, RepresentsKinds, RepresentsTree, RepresentsOrder, RepresentsConditions}
use Rattle.plan_blocked.specs.Inner.{Standing}
use Rattle.table_orders.specs.Among.{OrdersAmong}
use Rattle.table_children.specs.Children.{plan_with}

module _ (b : List ℕ) (ok : refusal b ≡ 0) (S : ℕ → Bool) where
  w : WellFormed (plan_of b)
  w = means_well_formed b ok

  standing : {i : ℕ} → Node (without (plan_of b) S) i → Stands (plan_of b) S i
  standing {i} l = (r_stands (plan_of b) w S i).to l

  -- whatever is absent, the orders between nodes that stand are those of the plan that is left
  pub orders_left : {table order : List ℕ} → Standing b S table → OrdersAmong b table order
      → RepresentsOrder order (without (plan_of b) S)
  orders_left {table} h o = o.represents (without (plan_of b) S) (λ n l. node_is b n (standing l).node)
      (λ x y. let r = r_standing_order (plan_of b) w S x y in (
        λ t. let z = r.to t in (z.0, (mark z.1.0, mark z.1.1)),
        λ z. let e = w.order_group x y z.0 in
            r.from (z.0, (stand e.2.node z.1.0, stand e.3.node z.1.1)),
      ))
    where
      mark : {x : ℕ} → Stands (plan_of b) S x → T (marked table x)
      mark {x} s = rw (h.is x (node_is b x s.node)) ((r_stands (plan_of b) w S x).from s)

      stand : {x : ℕ} → Node (plan_of b) x → T (marked table x) → Stands (plan_of b) S x
      stand {x} l t = (r_stands (plan_of b) w S x).to (rw (← h.is x (node_is b x l)) t)

  -- the nodes that the table marks are those that stand
  same_nodes : {table : List ℕ} → Standing b S table
      → (λ c. both ((plan_of b).tree.here c) (λ u. marked table c)) ≡ stands (plan_of b) S
  unfolding plan_of both
  same_nodes {table} h = fun_ext (λ c. by_cases (dec_lt c (node_count b))
      (λ (l : c < node_count b). rw (lt-ltb c (node_count b) l) (h.is c l))
      (λ n. rw (le-ltb c (node_count b) (omega arith)) (sym (past c n))))
    where
      past : (c : ℕ) → ¬ (c < node_count b) → stands (plan_of b) S c ≡ false
      past c n = not_passed _ (λ y. n (node_is b c ((r_stands (plan_of b) w S c).to (true_T _ y)).node))

  -- the orders of a plan are those of what is left, where only choices are blocked: no chain goes through a branch
  pub orders_blocked : Blocks (plan_of b) S → {order : List ℕ} → RepresentsOrder order (plan_of b)
      → RepresentsOrder order (without (plan_of b) S)
  orders_blocked blocks o = record {
    before = λ a c la lc. Iff.trans (o.before a c (standing la).node (standing lc).node)
        (before_standing (plan_of b) w S blocks (standing la) (standing lc));
    after = λ a c la lc. Iff.trans (o.after a c (standing la).node (standing lc).node)
        (before_standing (plan_of b) w S blocks (standing lc) (standing la));
  }

  -- kinds and conditions are those of the plan
  pub left_represented : {table kind from kids order conds : List ℕ} → Standing b S table
      → RepresentsKinds kind (plan_of b) → RepresentsConditions conds (plan_of b)
      → RepresentsTree from kids (node_count b) (plan_with b table)
      → RepresentsOrder order (without (plan_of b) S)
      → Represents kind from kids order conds (node_count b) (without (plan_of b) S)
  left_represented {from = from} {kids} h k c t o = record {
    kinds = record { is = λ n l. k.is n (standing l).node };
    tree = record { size = tree.size; children = λ g l. record { child = (tree.children g l).child } };
    orders = o;
    conditions = record { says = λ n l. c.says n (standing l).node };
  }
    where
      tree : RepresentsTree from kids (node_count b) (over (plan_of b) (within (plan_of b).tree (stands (plan_of b) S))
          (plan_of b).order)
      tree = subst (λ (here : ℕ → Bool). RepresentsTree from kids (node_count b)
          (over (plan_of b) (within (plan_of b).tree here) (plan_of b).order)) (same_nodes h) t
