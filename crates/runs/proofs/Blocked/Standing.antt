-- The plan with subtrees absent: which nodes stand; it is well formed where each any_of group keeps a branch and, below
-- the root, only choices lose one.
use Rattle.runs.proofs.Base.{◌≡◌, refl, ap, ◌∙◌, fun_ext, ◌↔◌, Bool, true, ℕ, ◌<◌, arith, T}
use Rattle.runs.specs.Plan.{all_of, any_of, Picks, Plan, itself, below, Node, Child, Under}
use Rattle.runs.specs.WellFormed.{WellFormed}
use Rattle.runs.specs.Tests.{both, negate}
use Rattle.runs.specs.Blocked.{Stands}
use Rattle.runs.specs.Model.Blocked.{within, over, stands, standing_order, without}
use Rattle.runs.proofs.Reflect.{Reflects, r_map, same_test, T_true, r_T, r_both, r_negate, r_any}
use Rattle.runs.proofs.Plan.{under_le, r_under}
use Rattle.runs.proofs.Calls.Rows.{LeftOf}
use Rattle.runs.proofs.Blocked.Thinner.{Thinner}

-- what is cut leaves the plan well formed
pub record Cuts (p : Plan) (S : ℕ → Bool) : Type 0 where
  pub not_root : (s : ℕ) → T (S s) → 0 < s
  pub of_choice : (s : ℕ) → T (S s) → 0 < p.tree.parent s → Picks (p.tree.kind (p.tree.parent s))
  pub branch_left : (g : ℕ) → T (stands p S g) → p.tree.kind g ≡ any_of → (c : ℕ) × Child (without p S) g c

module _ (p : Plan) (w : WellFormed p) (S : ℕ → Bool) where
  pub r_stands : (i : ℕ) → Reflects (stands p S i) (Stands p S i)
  unfolding stands
  r_stands i = r_map {A = Node p i × (¬ ((s : ℕ) × (s < p.tree.size) × (T (S s) × Under p s i)))} (
    λ x. record {
      node = x.0;
      outside = λ s y u. x.1 (s, omega (arith, under_le p w u, w.node_below i x.0), (y, u));
    },
    λ x. (x.node, λ y. x.outside y.0 y.2.0 y.2.1),
  )
      (r_both _ _ (r_T _)
      (r_negate _ (r_any (λ s. T (S s) × Under p s i) _ _ (λ s. r_both _ _ (r_T (S s)) (r_under p w s i)))))

  pub r_standing_order : (a b : ℕ) → Reflects (standing_order p S a b) (T (p.order a b) × (Stands p S a × Stands p S b))
  unfolding standing_order
  r_standing_order a b = r_both _ _ (r_T _) (r_both _ _ (r_stands a) (r_stands b))

  pub stands_up : {i : ℕ} → 0 < i → Stands p S i → Stands p S (p.tree.parent i)
  stands_up {i} z x = record {
    node = w.parent_node i z x.node;
    outside = λ s y u. x.outside s y (below z x.node u);
  }

  pub stands_down : {g c : ℕ} → Child p g c → ¬ T (S c) → Stands p S g → Stands p S c
  stands_down {g} {c} hc k x = record { node = hc.node; outside = λ s y u. at c s hc k y u }
    where
      at : (c s : ℕ) → Child p g c → ¬ T (S c) → T (S s) → Under p s c → ⊥
      at c s hc k y itself = k y
      at c s hc k y (below z l u) = x.outside s y (rw hc.up at u)

  -- from the root down, one node after the other
  pub stands_child : {g c : ℕ} → Child p g c → Stands p S c ↔ ((¬ T (S c)) × Stands p S g)
  stands_child {g} {c} hc = (
    λ x. (λ y. x.outside c y itself, rw hc.up at (stands_up hc.not_root x)),
    λ x. stands_down hc x.0 x.1,
  )

  pub root_stands : ¬ T (S 0) → Stands p S 0
  root_stands k = record {
    node = w.root_node;
    outside = λ s y u. let z : s ≡ 0 = omega (arith, under_le p w u) in k (rw z at y);
  }

  -- the same as tests
  pub root_standing : ¬ T (S 0) → stands p S 0 ≡ true
  root_standing k = T_true _ ((r_stands 0).from (root_stands k))

  pub child_standing : (c : ℕ) → 0 < c → Node p c
      → stands p S c ≡ both (negate (S c)) (λ u. stands p S (p.tree.parent c))
  child_standing c z l =
      same_test _ _ (r_map (stands_child (record { not_root = z; node = l; up = refl })) (r_stands c))
      (r_both _ _ (r_negate _ (r_T _)) (r_stands (p.tree.parent c)))

  pub standing_child : {g c : ℕ} → Child p g c → Stands p S c → Child (without p S) g c
  standing_child {g} {c} hc x = record { not_root = hc.not_root; node = (r_stands c).from x; up = hc.up }

  pub child_stands : {g c : ℕ} → Child (without p S) g c → Child p g c × Stands p S c
  child_stands {g} {c} hc = let x : Stands p S c = (r_stands c).to hc.node in
      (record { not_root = hc.not_root; node = x.node; up = hc.up }, x)

  -- what is above a node that stands, stands
  pub stands_above : {a i : ℕ} → Under p a i → Stands p S i → Stands p S a
  stands_above itself x = x
  stands_above (below z l u) x = stands_above u (stands_up z x)

  pub standing_under : {a i : ℕ} → Under p a i → Stands p S i → Under (without p S) a i
  standing_under itself x = itself
  standing_under (below {n = i} z l u) x = below z ((r_stands i).from x) (standing_under u (stands_up z x))

  pub under_stands : {a i : ℕ} → Under (without p S) a i → Under p a i
  under_stands itself = itself
  under_stands (below {n = i} z l u) = below z ((r_stands i).to l).node (under_stands u)

  -- from n down the plan without S is thinner, if the all_of groups there keep their children
  pub without_thinner : {n : ℕ} → Stands p S n
      → ((g c : ℕ) → Under (without p S) n g → p.tree.kind g ≡ all_of → Child p g c → Stands p S c)
      → Thinner p (without p S).tree (without p S).order n
  without_thinner {n} x kept = record {
    present = (r_stands n).from x;
    same_kind = λ i l. refl;
    same_parent = λ i z l. refl;
    no_other = λ g c ug hc. (child_stands hc).0;
    all_parts = λ g c ug k hc. standing_child hc (kept g c ug k hc);
    all_orders = λ g a b ug ha hb o. (r_standing_order a b).from (o, ((child_stands ha).1, (child_stands hb).1));
  }

  pub without_well_formed : Cuts p S → WellFormed (without p S)
  without_well_formed ok = record {
    root_node = (r_stands 0).from (root_stands (λ y. omega (arith, ok.not_root 0 y)));
    node_below = λ i l. w.node_below i (standing i l).node;
    parent_lower = λ i z l. w.parent_lower i z (standing i l).node;
    parent_node = λ i z l. (r_stands (p.tree.parent i)).from (stands_up z (standing i l));
    parent_group = λ i z l. w.parent_group i z (standing i l).node;
    some_branch = ok.branch_left;
    some_part = λ g z l k. let (c, hc) = w.some_part g z (standing g l).node k in
        (c, standing_child hc (stands_down hc (kept z k hc) (standing g l)));
    order_group = λ a b o. let (oab, x, y) = order o in let (g, k, ha, hb) = w.order_group a b oab in
        (g, k, standing_child ha x, standing_child hb y);
    on_task = w.on_task;
    inc_post = w.inc_post;
    rank = w.rank;
    rank_below = λ i l. w.rank_below i (standing i l).node;
    rank_rises = λ a b o. w.rank_rises a b (order o).0;
  }
    where
      standing : (i : ℕ) → T (stands p S i) → Stands p S i
      standing i l = (r_stands i).to l

      order : {a b : ℕ} → T (standing_order p S a b) → T (p.order a b) × Stands p S a × Stands p S b
      order {a} {b} o = let x = (r_standing_order a b).to o in (x.0, x.1.0, x.1.1)

      kept : {g c : ℕ} → 0 < g → p.tree.kind g ≡ all_of → Child p g c → ¬ T (S c)
      kept {g} {c} z k hc y = rw (hc.up, k) at (ok.of_choice c y (rw hc.up z))

  pub without_left : LeftOf p (without p S)
  without_left = record { node = λ i l. ((r_stands i).to l).node; same_kind = λ i l. refl }

  -- with nothing absent it is the plan itself
  pub nothing_absent : ((s : ℕ) → ¬ T (S s)) → without p S ≡ p
  nothing_absent k =
      ap (λ h. over p (within p.tree h) (standing_order p S)) nodes ∙ ap (λ o. over p p.tree o) orders
    where
      all_stand : (i : ℕ) → Node p i → Stands p S i
      all_stand i l = record { node = l; outside = λ s y u. k s y }

      nodes : stands p S ≡ p.tree.here
      nodes = fun_ext (λ i. same_test _ _ (r_map (λ x. x.node, all_stand i) (r_stands i)) (r_T _))

      orders : standing_order p S ≡ p.order
      orders = fun_ext (λ a. fun_ext (λ b. same_test _ _ (r_map (
        λ x. x.0,
        λ o. let (g, kg, ha, hb) = w.order_group a b o in
            (o, (all_stand a ha.node, all_stand b hb.node)),
      ) (r_standing_order a b)) (r_T _)))
