-- The tests of tree and orders reflect them, so all of it can be decided.
use Rattle.runs.proofs.Base.{◌≡◌, refl, ◌⊎◌, inl, inr, Bool, ℕ, zero, suc, ◌+◌, ◌<◌, ◌≤◌, arith, T, ℕ_discrete}
use Rattle.runs.specs.Plan.{Kind, task, all_of, any_of, optional, Picks, Moves, Plan, itself, below, Node, Child}
use Rattle.runs.specs.Plan.{Under, Before, direct, chain, Unordered}
use Rattle.runs.specs.WellFormed.{WellFormed}
use Rattle.runs.specs.Model.Trees.{kind_b, picks_b, moves_b, by_kind, child_b, some_child_b, every_child_b, under_in}
use Rattle.runs.specs.Model.Trees.{under_b, some_under_b, some_task_b, before_in, before_b, unordered_b}
use Rattle.runs.proofs.Reflect.{Reflects, r_map, decided, reflection, r_guarded, r_both, r_either}
use Rattle.runs.proofs.Reflect.{r_implies, r_negate, r_any, r_all}
use Rattle.runs.proofs.Reflect.{r_T, r_eq, r_lt, r_decide}
use Rattle.runs.proofs.Plan.Trees.{under_node}
use Rattle.runs.proofs.Plan.Chains.{before_node, before_rank}

-- two nodes: the same, one before the other, or unordered
pub data Standing (p : Plan) (a b : ℕ) : Type 0 where
  same : a ≡ b → Standing p a b
  earlier : Before p a b → Standing p a b
  later : Before p b a → Standing p a b
  unordered : Unordered p a b → Standing p a b

pub r_kind : (k j : Kind) → Reflects (kind_b k j) (k ≡ j)
unfolding kind_b
r_kind k j = r_decide _

pub r_picks : (k : Kind) → Reflects (picks_b k) (Picks k)
unfolding picks_b
r_picks task = r_T _
r_picks all_of = r_T _
r_picks any_of = r_T _
r_picks optional = r_T _

pub r_moves : (k : Kind) → Reflects (moves_b k) (Moves k)
unfolding moves_b
r_moves task = r_T _
r_moves all_of = r_T _
r_moves any_of = r_T _
r_moves optional = r_T _

-- a test with a case for each kind
pub r_by_kind : {A : Type 0} (k : Kind) (x y z o : Unit {0} → Bool) → (k ≡ task → Reflects (x tt) A)
    → (k ≡ all_of → Reflects (y tt) A)
    → (k ≡ any_of → Reflects (z tt) A) → (k ≡ optional → Reflects (o tt) A) → Reflects (by_kind k x y z o) A
unfolding by_kind
r_by_kind task x y z o rx ry rz ro = rx refl
r_by_kind all_of x y z o rx ry rz ro = ry refl
r_by_kind any_of x y z o rx ry rz ro = rz refl
r_by_kind optional x y z o rx ry rz ro = ro refl

module _ (p : Plan) where
  pub r_child : (g c : ℕ) → Reflects (child_b p g c) (Child p g c)
  unfolding child_b
  r_child g c = r_map {A = (0 < c) × (T (p.tree.here c) × (p.tree.parent c ≡ g))}
      (λ x. record { not_root = x.0; node = x.1.0; up = x.1.1 }, λ h. (h.not_root, (h.node, h.up)))
      (search reflection)

  pub dec_child : (g c : ℕ) → Dec (Child p g c)
  dec_child g c = decided (r_child g c)

  module _ (w : WellFormed p) where
    -- over the children of g; the test need only be right at them
    pub r_some_child : {g : ℕ} (P : ℕ → Type 0) (t : ℕ → Bool) → ((c : ℕ) → Child p g c → Reflects (t c) (P c))
        → Reflects (some_child_b p g t) ((c : ℕ) × Child p g c × P c)
    unfolding some_child_b
    r_some_child {g} P t r = r_map (
      λ x. (x.0, x.2.0, x.2.1),
      λ x. (x.0, w.node_below x.0 x.1.node, (x.1, x.2)),
    )
        (r_any (λ c. Child p g c × P c) _ _ (λ c. r_guarded _ _ (r_child g c) (r c)))

    pub r_every_child : {g : ℕ} (P : ℕ → Type 0) (t : ℕ → Bool) → ((c : ℕ) → Child p g c → Reflects (t c) (P c))
        → Reflects (every_child_b p g t) ((c : ℕ) → Child p g c → P c)
    unfolding every_child_b
    r_every_child {g} P t r = r_map (λ h c hc. h c (w.node_below c hc.node) hc, λ h c l hc. h c hc)
        (r_all (λ c. Child p g c → P c) _ _ (λ c. r_implies _ _ (r_child g c) (r c)))

    -- what is under a
    abbrev Up : ℕ → ℕ → Type 0
    Up a n = (a ≡ n) ⊎ ((0 < n) × (Node p n × Under p a (p.tree.parent n)))

    under_up : {a n : ℕ} → Under p a n → Up a n
    under_up itself = inl refl
    under_up (below z l u) = inr (z, (l, u))

    up_under : {a n : ℕ} → Up a n → Under p a n
    up_under (inl e) = rw e itself
    up_under (inr (z, (l, u))) = below z l u

    r_under_in : (k a n : ℕ) → n ≤ k → Reflects (under_in p k a n) (Under p a n)
    unfolding under_in
    r_under_in zero a n l = r_map (λ e. rw e itself, λ u. from (under_up u)) (r_eq a n)
      where
        from : Up a n → a ≡ n
        from (inl e) = e
        from (inr x) = absurd (omega (arith, x.0))
    r_under_in (suc k) a n l = r_map (up_under, under_up)
        (r_either _ _ (r_eq a n) (r_guarded _ _ (r_lt 0 n) (λ z. r_guarded _ _ (r_T _)
        (λ s. r_under_in k a (p.tree.parent n) (omega (arith, w.parent_lower n z s))))))

    pub r_under : (a n : ℕ) → Reflects (under_b p a n) (Under p a n)
    unfolding under_b
    r_under a n = r_under_in n a n (omega arith)

    pub dec_under : (a n : ℕ) → Dec (Under p a n)
    dec_under a n = decided (r_under a n)

    -- some node under c; some task
    pub r_some_under : {c : ℕ} (P : ℕ → Type 0) (q : ℕ → Bool) → Node p c → ((t : ℕ) → Reflects (q t) (P t))
        → Reflects (some_under_b p c q) ((t : ℕ) × Under p c t × P t)
    unfolding some_under_b
    r_some_under {c} P q l r = r_map (
      λ x. (x.0, x.2.0, x.2.1),
      λ x. (x.0, w.node_below x.0 (under_node p l x.1), (x.1, x.2)),
    )
        (r_any (λ t. Under p c t × P t) _ _ (λ t. r_both _ _ (r_under c t) (r t)))

    pub r_some_task : {c : ℕ} (P : ℕ → Type 0) (q : ℕ → Bool) → Node p c → ((t : ℕ) → Reflects (q t) (P t))
        → Reflects (some_task_b p c q) ((t : ℕ) × Under p c t × (p.tree.kind t ≡ task) × P t)
    unfolding some_task_b
    r_some_task P q l r = r_map (λ x. (x.0, x.1, x.2.0, x.2.1), λ x. (x.0, x.1, (x.2, x.3)))
        (r_some_under (λ t. (p.tree.kind t ≡ task) × P t) _ l (λ t. r_both _ _ (r_kind _ _) (r t)))

    -- chains of orders
    abbrev Along : ℕ → ℕ → Type 0
    Along a c = T (p.order a c) ⊎ ((b : ℕ) × (b < p.tree.size) × (T (p.order a b) × Before p b c))

    before_along : {a c : ℕ} → Before p a c → Along a c
    before_along (direct o) = inl o
    before_along (chain {a = a} {b = b} o q) = inr (b, w.node_below b (w.order_group a b o).3.node, (o, q))

    along_before : {a c : ℕ} → Along a c → Before p a c
    along_before (inl o) = direct o
    along_before (inr (b, l, (o, q))) = chain o q

    r_before_in : (k a c : ℕ) → p.tree.size ≤ w.rank a + suc k → Reflects (before_in p k a c) (Before p a c)
    unfolding before_in
    r_before_in zero a c l = r_map (direct, λ q. from (before_along q)) (r_T (p.order a c))
      where
        from : Along a c → T (p.order a c)
        from (inl o) = o
        from (inr (b, lb, (o, q))) = absurd
            (omega (arith, w.rank_rises a b o, before_rank p w q, w.rank_below c (before_node p w q)))
    r_before_in (suc k) a c l = r_map (along_before, before_along) (r_either _ _ (r_T (p.order a c))
        (r_any (λ b. T (p.order a b) × Before p b c) _ _
        (λ b. r_guarded _ _ (r_T (p.order a b)) (λ o. r_before_in k b c (omega (arith, w.rank_rises a b o))))))

    pub r_before : (a c : ℕ) → Reflects (before_b p a c) (Before p a c)
    unfolding before_b
    r_before a c = r_before_in p.tree.size a c (omega arith)

    pub dec_before : (a c : ℕ) → Dec (Before p a c)
    dec_before a c = decided (r_before a c)

    -- how two nodes stand to each other
    pub standing : (a b : ℕ) → Standing p a b
    standing a b = go (ℕ_discrete a b) (dec_before a b) (dec_before b a)
      where
        go : Dec (a ≡ b) → Dec (Before p a b) → Dec (Before p b a) → Standing p a b
        go (yes e) x y = same e
        go (no k) (yes q) y = earlier q
        go (no k) (no x) (yes q) = later q
        go (no k) (no x) (no y) = unordered (record { distinct = k; not_before = x; not_after = y })

    pub r_unordered : (a b : ℕ) → Reflects (unordered_b p a b) (Unordered p a b)
    unfolding unordered_b
    r_unordered a b = r_map (
      λ x. record { distinct = x.0; not_before = x.1.0; not_after = x.1.1 },
      λ u. (u.distinct, (u.not_before, u.not_after)),
    )
        (r_both _ _ (r_negate _ (r_eq a b)) (r_both _ _ (r_negate _ (r_before a b)) (r_negate _ (r_before b a))))
