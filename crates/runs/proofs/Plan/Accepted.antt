-- What 01's refusals leave is well formed; the rank of a node is its number.
use Rattle.runs.proofs.Base.{◌≡◌, refl, sym, ◌∙◌, ◌≢◌, ℕ, ◌<◌, arith}
use Rattle.runs.specs.Plan.{task, all_of, any_of, Plan, Node}
use Rattle.runs.specs.WellFormed.{WellFormed, Accepted}
use Rattle.runs.proofs.Reflect.{clash}

pub accepted_well_formed : (p : Plan) → Accepted p → WellFormed p
accepted_well_formed p a = record {
  root_node = (a.nodes 0).1 a.some_node;
  node_below = λ n. (a.nodes n).0;
  parent_lower = λ n z l. (lower n z l).0;
  parent_node = λ n z l. (a.nodes (p.tree.parent n)).1 (omega (arith, (a.nodes n).0 l, (lower n z l).0));
  parent_group = λ n z l. (lower n z l).1;
  some_branch = λ g l k. a.has_child g ((a.nodes g).0 l) (λ q. clash (other (sym k ∙ q)));
  some_part = λ g z l k. a.has_child g ((a.nodes g).0 l) (λ q. clash (another (sym k ∙ q)));
  order_group = λ x y o. (a.orders x y o).1;
  on_task = a.on_task;
  inc_post = a.inc_post;
  rank = λ n. n;
  rank_below = λ n. (a.nodes n).0;
  rank_rises = λ x y o. (a.orders x y o).0;
}
  where
    lower : (n : ℕ) → 0 < n → Node p n → (p.tree.parent n < n) × (p.tree.kind (p.tree.parent n) ≢ task)
    lower n z l = a.parent_lower n z ((a.nodes n).0 l)

    other : any_of ≡ task → ◌≡◌ {A = ℕ} 0 1
    other q = cc

    another : all_of ≡ task → ◌≡◌ {A = ℕ} 0 1
    another q = cc

pub accepted_rank : (p : Plan) (a : Accepted p) (n : ℕ) → (accepted_well_formed p a).rank n ≡ n
unfolding accepted_well_formed
accepted_rank p a n = refl
