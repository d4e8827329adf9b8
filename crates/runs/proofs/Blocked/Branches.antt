-- Blocked branches: 28 and 29 as tests; the plan without them is well formed; blocking more of them and adding orders
-- leave CLEAR as CLEAR and DOOMED as DOOMED.
use Rattle.runs.proofs.Base.{◌≡◌, refl, sym, ap, ◌∙◌, ◌⊎◌, inl, inr, ◌↔◌, Iff·trans, Bool, true, false, cond}
use Rattle.runs.proofs.Base.{List, [], Among, among_none, ℕ, ◌<◌, arith, T}
use Rattle.runs.specs.Plan.{all_of, any_of, Picks, Plan, itself, below, Node, Child, Under, Before, direct, chain}
use Rattle.runs.specs.WellFormed.{WellFormed}
use Rattle.runs.specs.Summary.{Mark}
use Rattle.runs.specs.Searches.{listed}
use Rattle.runs.specs.Calls.{SomeOf, Rising, empty}
use Rattle.runs.specs.Blocked.{Stands, MarkedUnder, Refused28, not_rising, names_root, no_node, no_choice}
use Rattle.runs.specs.Blocked.{Refused29, no_branch}
use Rattle.runs.specs.Branches.{Keeps, OrdersAdded, Blocks, BlocksMore}
use Rattle.runs.specs.Model.Blocked.{over, stands, without, marked_under_b, unblockable_b, refused28_b, refused29_b}
use Rattle.runs.specs.Model.Blocked.{blocked_refusal}
use Rattle.runs.proofs.Reflect.{Reflects, decided, force, r_map, r_T, r_both, r_either, r_negate, r_guarded}
use Rattle.runs.proofs.Reflect.{r_eq, r_lt, r_any, T_true}
use Rattle.runs.proofs.Plan.{under_node, r_kind, r_picks, r_some_child}
use Rattle.runs.proofs.Summary.{marks_exact}
use Rattle.runs.proofs.Calls.Listed.{r_rising, r_some_of, r_listed}
use Rattle.runs.proofs.Blocked.Standing.{r_stands, r_standing_order, stands_up, stands_down, stands_above}
use Rattle.runs.proofs.Blocked.Standing.{standing_child, child_stands}
use Rattle.runs.proofs.Blocked.Standing.{without_well_formed, nothing_absent}
use Rattle.runs.proofs.Blocked.Thinner.{Thinner, thinner_keeps}

-- 28 if the first test passes, else 29 if the second does, else 0
abbrev number : Bool → Bool → ℕ
number x y = cond x 28 (cond y 29 0)

module _ {A B : Type 0} where
  number_28 : (x y : Bool) → Reflects x A → Reflects y B → (number x y ≡ 28) ↔ A
  number_28 true y r s = (λ q. r.to tt, λ a. refl)
  number_28 false true r s = (λ q. absurd (omega (arith, q)), λ a. absurd (r.from a))
  number_28 false false r s = (λ q. absurd (omega (arith, q)), λ a. absurd (r.from a))

  number_29 : (x y : Bool) → Reflects x A → Reflects y B → (number x y ≡ 29) ↔ ((¬ A) × B)
  number_29 true y r s = (λ q. absurd (omega (arith, q)), λ (n, b). absurd (n (r.to tt)))
  number_29 false true r s = (λ q. (r.from, s.to tt), λ a. refl)
  number_29 false false r s = (λ q. absurd (omega (arith, q)), λ (n, b). absurd (s.from b))

  number_none : (x y : Bool) → Reflects x A → Reflects y B → (number x y ≡ 0) ↔ ((¬ A) × (¬ B))
  number_none true y r s = (λ q. absurd (omega (arith, q)), λ (n, m). absurd (n (r.to tt)))
  number_none false true r s = (λ q. absurd (omega (arith, q)), λ (n, m). absurd (m (s.to tt)))
  number_none false false r s = (λ q. (r.from, s.from), λ a. refl)

module _ (p : Plan) (w : WellFormed p) where
  module _ (S : ℕ → Bool) (ok : Blocks p S) where
    pub blocked_well_formed : WellFormed (without p S)
    blocked_well_formed = without_well_formed p w S (record {
      not_root = ok.not_root;
      of_choice = λ s x z. ok.of_choice s x;
      branch_left = ok.branch_left;
    })

    -- each test of a summary is its mark
    pub blocked_marks : (n f : ℕ) (v : Bool) (m : Mark) → Reflects (marked_under_b p S n f v m)
        (MarkedUnder p S n f v m)
    unfolding marked_under_b
    blocked_marks n f v m = r_guarded _ _ (r_T _) (λ l. marks_exact (without p S) blocked_well_formed n f l v m)

    -- an all_of group that stands keeps all its children
    pub parts_stand : {g c : ℕ} → p.tree.kind g ≡ all_of → Child p g c → Stands p S g → Stands p S c
    parts_stand {g} {c} k hc x = stands_down p w S hc (λ y. rw (hc.up, k) at (ok.of_choice c y)) x

    -- the chains of orders between nodes that stand are those of the plan
    pub before_standing : {a c : ℕ} → Stands p S a → Stands p S c → Before p a c ↔ Before (without p S) a c
    before_standing xa xc = (out xa xc, into)
      where
        out : {a c : ℕ} → Stands p S a → Stands p S c → Before p a c → Before (without p S) a c
        out {a} {c} xa xc (direct o) = direct ((r_standing_order p w S a c).from (o, (xa, xc)))
        out {a} {c} xa xc (chain {b = b} o y) = let (g, k, ha, hb) = w.order_group a b o in
            let xb = parts_stand k hb (rw ha.up at (stands_up p w S ha.not_root xa)) in
            chain ((r_standing_order p w S a b).from (o, (xa, xb))) (out xb xc y)

        into : {a c : ℕ} → Before (without p S) a c → Before p a c
        into {a} {c} (direct o) = direct ((r_standing_order p w S a c).to o).0
        into {a} {c} (chain {b = b} o y) = chain ((r_standing_order p w S a b).to o).0 (into y)

  -- 28 and 29 of a list
  module _ (xs : List ℕ) where
    -- each is its test
    Unblockable : ℕ → Type 0
    Unblockable s = (s ≡ 0) ⊎ ((¬ Node p s) ⊎ (¬ Picks (p.tree.kind (p.tree.parent s))))

    r_unblockable : (s : ℕ) → Reflects (unblockable_b p s) (Unblockable s)
    unfolding unblockable_b Unblockable
    r_unblockable s = r_either _ _ (r_eq s 0) (r_either _ _ (r_negate _ (r_T _)) (r_negate _ (r_picks _)))

    pub r_28 : Reflects (refused28_b p xs) (Refused28 p xs)
    unfolding refused28_b Unblockable
    r_28 = r_map (to, from) (r_either _ _ (r_negate _ (r_rising xs)) (r_some_of Unblockable xs _ r_unblockable))
      where
        named : (s : ℕ) → Among s xs → Unblockable s → Refused28 p xs
        named s i (inl e) = names_root (rw e at i)
        named s i (inr (inl n)) = no_node s i n
        named s i (inr (inr n)) = no_choice s i n

        to : (¬ Rising xs) ⊎ SomeOf xs Unblockable → Refused28 p xs
        to (inl n) = not_rising n
        to (inr (s, i, u)) = named s i u

        from : Refused28 p xs → (¬ Rising xs) ⊎ SomeOf xs Unblockable
        from (not_rising n) = inl n
        from (names_root i) = inr (0, i, inl refl)
        from (no_node s i n) = inr (s, i, inr (inl n))
        from (no_choice s i n) = inr (s, i, inr (inr n))

    pub r_29 : Reflects (refused29_b p xs) (Refused29 p xs)
    unfolding refused29_b
    r_29 = r_map (to, from) (r_any Left _ _ (λ g. r_both _ _ (r_stands p w S g) (r_both _ _ (r_kind _ _)
        (r_negate _ (r_some_child p w (Stands p S) (stands p S) (λ c hc. r_stands p w S c))))))
      where
        S : ℕ → Bool
        S = listed xs

        Left : ℕ → Type 0
        Left g = Stands p S g × ((p.tree.kind g ≡ any_of) × (¬ ((c : ℕ) × Child p g c × Stands p S c)))

        to : (g : ℕ) × (g < p.tree.size) × Left g → Refused29 p xs
        to (g, l, (x, (k, n))) = no_branch g x k (λ c hc y. n (c, hc, y))

        from : Refused29 p xs → (g : ℕ) × (g < p.tree.size) × Left g
        from (no_branch g x k n) = (g, w.node_below g x.node, (x, (k, λ (c, hc, y). n c hc y)))

    -- neither applies exactly if the list strictly rises and its nodes may be blocked
    pub passes_28_29 : ((¬ Refused28 p xs) × (¬ Refused29 p xs)) ↔ (Rising xs × Blocks p (listed xs))
    passes_28_29 = (
      λ x. (force (decided (r_rising xs)) (λ r. x.0 (not_rising r)), blocks_of x.0 x.1),
      λ x. (no_28 x.0 x.1, no_29 x.1),
    )
      where
        named : (s : ℕ) → T (listed xs s) → Among s xs
        named s x = (r_listed xs s).to x

        some_left : (g : ℕ) → ¬ ¬ ((c : ℕ) × Child p g c × Stands p (listed xs) c)
            → (c : ℕ) × Child p g c × Stands p (listed xs) c
        some_left g = force (decided (r_some_child p w (Stands p (listed xs)) (stands p (listed xs))
            (λ c hc. r_stands p w (listed xs) c)))

        blocks_of : ¬ Refused28 p xs → ¬ Refused29 p xs → Blocks p (listed xs)
        blocks_of k l = record {
          node = λ s x. force (decided (r_T (p.tree.here s))) (λ n. k (no_node s (named s x) n));
          not_root = λ s x. force (decided (r_lt 0 s))
              (λ n. let z : s ≡ 0 = omega arith in k (names_root (rw z at (named s x))));
          of_choice = λ s x. force (decided (r_picks (p.tree.kind (p.tree.parent s))))
              (λ n. k (no_choice s (named s x) n));
          branch_left = λ g x e. let (c, hc, y) = some_left g
              (λ n. l (no_branch g ((r_stands p w (listed xs) g).to x) e (λ c hc y. n (c, hc, y)))) in
              (c, standing_child p w (listed xs) hc y);
        }

        no_28 : Rising xs → Blocks p (listed xs) → ¬ Refused28 p xs
        no_28 y b (not_rising r) = r y
        no_28 y b (names_root i) = omega (arith, b.not_root 0 ((r_listed xs 0).from i))
        no_28 y b (no_node s i n) = n (b.node s ((r_listed xs s).from i))
        no_28 y b (no_choice s i n) = n (b.of_choice s ((r_listed xs s).from i))

        no_29 : Blocks p (listed xs) → ¬ Refused29 p xs
        no_29 b (no_branch g x e n) = let (c, hc) = b.branch_left g ((r_stands p w (listed xs) g).from x) e in
            let (h, y) = child_stands p w (listed xs) hc in n c h y

    -- the number, by its words
    pub refusal_28 : (blocked_refusal p xs ≡ 28) ↔ Refused28 p xs
    unfolding blocked_refusal
    refusal_28 = number_28 _ _ r_28 r_29

    pub refusal_29 : (blocked_refusal p xs ≡ 29) ↔ ((¬ Refused28 p xs) × Refused29 p xs)
    unfolding blocked_refusal
    refusal_29 = number_29 _ _ r_28 r_29

    pub refusal_none : (blocked_refusal p xs ≡ 0) ↔ (Rising xs × Blocks p (listed xs))
    unfolding blocked_refusal
    refusal_none = Iff·trans (number_none _ _ r_28 r_29) passes_28_29

  -- nothing need be blocked (and then nothing is absent: `nothing_absent`)
  nothing_listed : (s : ℕ) → ¬ T (listed [] s)
  nothing_listed s x = among_none ((r_listed [] s).to x)

  pub all_standing : (n : ℕ) → Node p n → stands p (listed []) n ≡ true
  all_standing n l = T_true _ ((r_stands p w (listed []) n).from
      (record { node = l; outside = λ s x u. nothing_listed s x }))

  pub blocks_nothing : Blocks p (listed [])
  blocks_nothing = record {
    node = λ s x. absurd (nothing_listed s x);
    not_root = λ s x. absurd (nothing_listed s x);
    of_choice = λ s x. absurd (nothing_listed s x);
    branch_left = λ g l k. let x : Stands p (listed []) g = (r_stands p w (listed []) g).to l in
        let (c, hc) = w.some_branch g x.node k in
        (c, standing_child p w (listed []) hc (stands_down p w (listed []) hc (nothing_listed c) x));
  }

  pub nothing_refused : blocked_refusal p [] ≡ 0
  nothing_refused = (refusal_none []).1 (empty, blocks_nothing)

  pub without_none : without p (listed []) ≡ p
  without_none = nothing_absent p w (listed []) nothing_listed

-- r is p with orders added
module _ (p r : Plan) (w : WellFormed p) (wr : WellFormed r) (added : OrdersAdded p r) where
  node_in : (i : ℕ) → Node r i → Node p i
  node_in i l = rw (added.same_nodes i) l

  child_in : {g c : ℕ} → Child r g c → Child p g c
  child_in {g} {c} hc = let l : Node p c = node_in c hc.node in
      record { not_root = hc.not_root; node = l; up = added.same_parent c hc.not_root l ∙ hc.up }

  child_out : {g c : ℕ} → Child p g c → Child r g c
  child_out {g} {c} hc = record {
    not_root = hc.not_root;
    node = rw (added.same_nodes c) at hc.node;
    up = sym (added.same_parent c hc.not_root hc.node) ∙ hc.up;
  }

  under_out : {a i : ℕ} → Under p a i → Node r i → Under r a i
  under_out itself l = itself
  under_out {a} (below {n = i} z k u) l = let e : p.tree.parent i ≡ r.tree.parent i = added.same_parent i z k in
      below z l (rw (← e) (under_out u (rw e (wr.parent_node i z l))))

  -- what stands in r where the nodes in R are blocked stands in p where some of them are
  stood : (S R : ℕ → Bool) → ((s : ℕ) → T (S s) → T (R s)) → {i : ℕ} → Stands r R i → Stands p S i
  stood S R more {i} x =
      record { node = node_in i x.node; outside = λ s y u. x.outside s (more s y) (under_out u x.node) }

  -- what may be blocked in p may be in r
  pub blocks_out : (S : ℕ → Bool) → Blocks p S → Blocks r S
  blocks_out S ok = record {
    node = λ s x. rw (added.same_nodes s) at (ok.node s x);
    not_root = ok.not_root;
    of_choice = λ s x. let z = ok.not_root s x in let l = ok.node s x in
        let k : p.tree.kind (p.tree.parent s) ≡ r.tree.kind (p.tree.parent s) =
        added.same_kind _ (w.parent_node s z l) in
        rw (added.same_parent s z l) at (rw k at (ok.of_choice s x));
    branch_left = λ g x e.
        let xr = (r_stands r wr S g).to x in
        let xp = stood S S (λ s y. y) xr in
        let (c, hc) = ok.branch_left g ((r_stands p w S g).from xp) (added.same_kind g xp.node ∙ e) in
        let (h, y) = child_stands p w S hc in
        (c, standing_child r wr S (child_out h) (stands_down r wr S (child_out h) (λ b. y.outside c b itself) xr));
  }

  -- fewer nodes stand where the nodes in R are blocked than where those in S are
  module _ (S R : ℕ → Bool) (ok_s : Blocks p S) (ok_r : Blocks r R) (fewer : (i : ℕ) → Stands r R i → Stands p S i)
    where
      wq : WellFormed (without r R)
      wq = blocked_well_formed r wr R ok_r

      standing : (i : ℕ) → Node (without r R) i → Stands r R i
      standing i l = (r_stands r wr R i).to l

      -- the plan without R, but for its conditions, which are the same
      blocked_thinner : Thinner (without p S) (without r R).tree (without r R).order 0
      blocked_thinner = record {
        present = wq.root_node;
        same_kind = λ i l. added.same_kind i (node_in i (standing i l).node);
        same_parent = λ i z l. added.same_parent i z (node_in i (standing i l).node);
        no_other = λ g c ug hc. let (h, x) = child_stands r wr R hc in standing_child p w S (child_in h) (fewer c x);
        all_parts = λ g c ug k hc. let h : Child r g c = child_out (child_stands p w S hc).0 in
            standing_child r wr R h
            (parts_stand r wr R ok_r k h (standing g (under_node (without r R) wq.root_node ug)));
        all_orders = λ g a b ug ha hb x. (r_standing_order r wr R a b).from (
          added.no_order_lost a b ((r_standing_order p w S a b).to x).0,
          ((child_stands r wr R ha).1, (child_stands r wr R hb).1),
        );
      }

      -- 02's two promises, both at once: orders are added and more branches are blocked
      pub promises : Keeps (without p S) (without r R)
      promises = rw same at (thinner_keeps (without p S) (blocked_well_formed p w S ok_s) (without r R).tree
          (without r R).order (rw same wq) blocked_thinner)
        where
          same : over p (without r R).tree (without r R).order ≡ without r R
          same = ap (λ c. record { tree = (without r R).tree; conditions = c; order = (without r R).order })
              added.same_conditions

-- no order need be added
none_added : (p : Plan) → OrdersAdded p p
none_added p = record {
  same_nodes = λ i. refl;
  same_kind = λ i l. refl;
  same_parent = λ i z l. refl;
  same_conditions = refl;
  no_order_lost = λ a b x. x;
}

-- each blocked node of S is absent under R (it or a node above it is blocked) exactly if fewer nodes stand
pub more_blocked : (p : Plan) → WellFormed p → (S R : ℕ → Bool) → BlocksMore p S R
    ↔ ((i : ℕ) → Stands p R i → Stands p S i)
more_blocked p w S R = (
  λ m i x. record { node = x.node; outside = λ s y u. m s y (stands_above p w R u x) },
  λ f s y x. (f s x).outside s y itself,
)

-- and one by one: blocking more branches where 28 and 29 pass; adding orders that the rules accept, under the same
-- blocked nodes
pub more_keeps : (p : Plan) → WellFormed p → (S R : ℕ → Bool) → Blocks p S → Blocks p R → BlocksMore p S R
    → Keeps (without p S) (without p R)
more_keeps p w S R ok_s ok_r more = promises p p w w (none_added p) S R ok_s ok_r ((more_blocked p w S R).0 more)

pub blocking_keeps : (p : Plan) → WellFormed p → (S R : ℕ → Bool) → Blocks p S → Blocks p R
    → ((s : ℕ) → T (S s) → T (R s))
    → Keeps (without p S) (without p R)
blocking_keeps p w S R ok_s ok_r more = more_keeps p w S R ok_s ok_r (λ s y x. x.outside s (more s y) itself)

pub orders_keep : (p r : Plan) → WellFormed p → WellFormed r → OrdersAdded p r → (S : ℕ → Bool) → Blocks p S
    → Keeps (without p S) (without r S)
orders_keep p r w wr added S ok = promises p r w wr added S S ok (blocks_out p r w wr added S ok)
    (λ i x. stood p r w wr added S S (λ s y. y) x)
