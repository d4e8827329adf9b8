-- The test by pairs reflects may clobber; the test by the rule reflects must clobber.
use Rattle.runs.proofs.Base.{◌≡◌, refl, ◌≢◌, ◌⊎◌, inl, inr, ◌↔◌, Iff·symm, Bool, not, Option, none, some}
use Rattle.runs.proofs.Base.{ℕ, zero, suc, ◌+◌, ◌≤◌, arith}
use Rattle.runs.specs.Plan.{task, all_of, any_of, optional, Place, pre, inc, post, Plan, Node, Child, Under}
use Rattle.runs.specs.Plan.{Before, Unordered}
use Rattle.runs.specs.WellFormed.{WellFormed}
use Rattle.runs.specs.Execution.{start, finish, skip, last_asserted}
use Rattle.runs.specs.Summary.{May, Must, ExternalPre, ExternalPost, MayClobber, Silent, MustClobber, by_any_of}
use Rattle.runs.specs.Summary.{by_child, by_pair}
use Rattle.runs.specs.Pairs.{TaskWith, ClobberByPairs, in_child, unordered_pair, opposed_pair, passed_on}
use Rattle.runs.specs.Model.Marks.{condition_b, silent_b, avoided_b, pair_b, may_clobber_in, may_clobber_b, alone_b}
use Rattle.runs.specs.Model.Marks.{undisturbed_b, must_clobber_in, must_clobber_b}
use Rattle.runs.proofs.Reflect.{clash, Reflects, r_map, decided, r_false, r_both, r_either, r_implies, r_negate}
use Rattle.runs.proofs.Reflect.{r_eq, r_none, r_some}
use Rattle.runs.proofs.Plan.{child_lt, r_by_kind, r_some_child, r_every_child, r_some_task, r_before}
use Rattle.runs.proofs.Plan.{r_unordered}
use Rattle.runs.proofs.Summary.Clobber.{clobber_all, clobber_any, clobber_optional, clobber_task}
use Rattle.runs.proofs.Summary.ReflectConditions.{r_avoid, r_may_pre, r_must_pre, r_may_post, r_must_post}

module _ (p : Plan) (w : WellFormed p) where
  r_condition : (i j : Place) (f : ℕ) (v : Bool) (c : ℕ) → Node p c
      → Reflects (condition_b p i j f v c) (TaskWith p i j f v c)
  unfolding condition_b
  r_condition i j f v c l = r_map (
    λ x. record { who = x.0; beneath = x.1; is_task = x.2; has = x.3 },
    λ x. (x.who, x.beneath, x.is_task, x.has),
  )
      (r_some_task p w (λ t. (p.conditions.sign i t f ≡ some v) ⊎ (p.conditions.sign j t f ≡ some v)) _ l
      (λ t. r_either _ _ (r_some _ _) (r_some _ _)))

  r_silent : (f c : ℕ) → Node p c → Reflects (silent_b p f c) (Silent p f c)
  unfolding silent_b
  r_silent f c l = r_map (quiet, λ x y. loud x y.0 y.1 y.2 y.3)
      (r_negate _ (r_some_task p w
      (λ t. (p.conditions.sign inc t f ≢ none) ⊎ (p.conditions.sign post t f ≢ none)) _ l
      (λ t. r_either _ _ (r_negate _ (r_none _)) (r_negate _ (r_none _)))))
    where
      given : (o : Option Bool) → ¬ (o ≢ none) → o ≡ none
      given o k = at (decided (r_none o))
        where
          at : Dec (o ≡ none) → o ≡ none
          at (yes q) = q
          at (no n) = absurd (k n)

      quiet : ¬ ((t : ℕ) × Under p c t × (p.tree.kind t ≡ task)
          × ((p.conditions.sign inc t f ≢ none) ⊎ (p.conditions.sign post t f ≢ none))) → Silent p f c
      quiet k (start t) kt u = given _ (λ ne. k (t, u, kt, inl ne))
      quiet k (finish t) kt u = given _ (λ ne. k (t, u, kt, inr ne))
      quiet k (skip t) kt u = refl

      loud : Silent p f c → (t : ℕ) → Under p c t → p.tree.kind t ≡ task
          → (p.conditions.sign inc t f ≢ none) ⊎ (p.conditions.sign post t f ≢ none) → ⊥
      loud x t u kt (inl ne) = ne (x (start t) kt u)
      loud x t u kt (inr ne) = ne (x (finish t) kt u)

  module _ (f : ℕ) (v : Bool) where
    -- 01's pair of children c and d, with 02's
    abbrev Pair : ℕ → ℕ → ℕ → Type 0
    Pair n c d = (Unordered p c d × ((TaskWith p pre inc f v c × TaskWith p inc post f (not v) d)
        ⊎ (TaskWith p post post f v c × TaskWith p post post f (not v) d)))
        ⊎ (Before p d c × (May p d (ExternalPost p f (not v))
        × (May p c (ExternalPre p f v) × ((b : ℕ) → Child p n b → Before p d b → Before p b c
        → May p b (λ h. last_asserted p h f ≡ none)))))

    r_pair : {n c d : ℕ} → Child p n c → Child p n d → Reflects (pair_b p n f v c d) (Pair n c d)
    unfolding pair_b avoided_b
    r_pair {n} {c} {d} hc hd = r_either _ _
        (r_both _ _ (r_unordered p w c d)
        (r_either _ _ (r_both _ _ (r_condition pre inc f v c hc.node) (r_condition inc post f (not v) d hd.node))
        (r_both _ _ (r_condition post post f v c hc.node) (r_condition post post f (not v) d hd.node))))
        (r_both _ _ (r_before p w d c) (r_both _ _ (r_may_post p w d f hd.node (not v))
        (r_both _ _ (r_may_pre p w c f hc.node v)
        (r_every_child p w (λ b. Before p d b → Before p b c → May p b (λ h. last_asserted p h f ≡ none)) _
        (λ b hb. r_implies _ _ (r_before p w d b)
        (λ x. r_implies _ _ (r_before p w b c) (λ y. r_avoid p w b f hb.node)))))))

    abbrev SomePair : ℕ → Type 0
    SomePair n = ((c : ℕ) × Child p n c × MayClobber p f v c)
        ⊎ ((c : ℕ) × Child p n c × ((d : ℕ) × Child p n d × Pair n c d))

    some_pair : {n : ℕ} → SomePair n ↔ ClobberByPairs p f v n
    some_pair {n} = (to, from)
      where
        to : SomePair n → ClobberByPairs p f v n
        to (inl (c, hc, x)) = in_child c hc x
        to (inr (c, hc, (d, hd, inl (u, inl (x, y))))) = unordered_pair c d hc hd u x y
        to (inr (c, hc, (d, hd, inl (u, inr (x, y))))) = opposed_pair c d hc hd u x y
        to (inr (c, hc, (d, hd, inr (q, (x, (y, z)))))) = passed_on c d hc hd q x y z

        from : ClobberByPairs p f v n → SomePair n
        from (in_child c hc x) = inl (c, hc, x)
        from (unordered_pair c d hc hd u x y) = inr (c, hc, (d, hd, inl (u, inl (x, y))))
        from (opposed_pair c d hc hd u x y) = inr (c, hc, (d, hd, inl (u, inr (x, y))))
        from (passed_on c d hc hd q x y z) = inr (c, hc, (d, hd, inr (q, (x, (y, z)))))

    r_may_clobber_in : (k n : ℕ) → Node p n → p.tree.size ≤ n + k
        → Reflects (may_clobber_in p f v k n) (MayClobber p f v n)
    unfolding may_clobber_in
    r_may_clobber_in zero n l b = absurd (omega (arith, w.node_below n l))
    r_may_clobber_in (suc k) n l b = r_by_kind (p.tree.kind n) _ _ _ _ (λ kn. r_false (clobber_task p w f v kn))
        (λ kn. r_map (Iff·symm (clobber_all p w kn f v)) (r_map some_pair (r_either _ _
        (r_some_child p w (MayClobber p f v) _
        (λ c hc. r_may_clobber_in k c hc.node (omega (arith, child_lt p w hc))))
        (r_some_child p w (λ c. (d : ℕ) × Child p n d × Pair n c d) _
        (λ c hc. r_some_child p w (Pair n c) _ (λ d hd. r_pair hc hd))))))
        (λ kn. r_map (Iff·symm (clobber_any p w f v kn))
        (r_some_child p w (MayClobber p f v) _
        (λ c hc. r_may_clobber_in k c hc.node (omega (arith, child_lt p w hc)))))
        (λ kn. r_map (Iff·symm (clobber_optional p w f v kn))
        (r_some_child p w (MayClobber p f v) _
        (λ c hc. r_may_clobber_in k c hc.node (omega (arith, child_lt p w hc)))))

    pub r_may_clobber : (n : ℕ) → Node p n → Reflects (may_clobber_b p n f v) (MayClobber p f v n)
    unfolding may_clobber_b
    r_may_clobber n l = r_may_clobber_in p.tree.size n l (omega arith)

    abbrev Alone : ℕ → ℕ → Type 0
    Alone n c = (b : ℕ) → Child p n b → Unordered p b c → Silent p f b

    abbrev Undisturbed : ℕ → ℕ → ℕ → Type 0
    Undisturbed n c d = (b : ℕ) → Child p n b → b ≢ c → b ≢ d → ¬ Before p b d → ¬ Before p c b → Silent p f b

    abbrev MustPair : ℕ → ℕ → ℕ → Type 0
    MustPair n c d = Before p d c ×
        (Must p d (ExternalPost p f (not v)) × (Must p c (ExternalPre p f v) × Undisturbed n c d))

    r_alone : (n c : ℕ) → Reflects (alone_b p n f c) (Alone n c)
    unfolding alone_b
    r_alone n c = r_every_child p w (λ b. Unordered p b c → Silent p f b) _
        (λ b hb. r_implies _ _ (r_unordered p w b c) (λ x. r_silent f b hb.node))

    r_undisturbed : (n c d : ℕ) → Reflects (undisturbed_b p n f c d) (Undisturbed n c d)
    unfolding undisturbed_b
    r_undisturbed n c d = r_every_child p w (λ b. b ≢ c → b ≢ d → ¬ Before p b d → ¬ Before p c b → Silent p f b) _
        (λ b hb. r_implies _ _ (r_negate _ (r_eq _ _)) (λ x₁. r_implies _ _ (r_negate _ (r_eq _ _))
        (λ x₂. r_implies _ _ (r_negate _ (r_before p w _ _))
        (λ x₃. r_implies _ _ (r_negate _ (r_before p w _ _)) (λ x₄. r_silent f b hb.node)))))

    abbrev MustAll : ℕ → Type 0
    MustAll n = ((c : ℕ) × Child p n c × (MustClobber p f v c × Alone n c))
        ⊎ ((c : ℕ) × Child p n c × ((d : ℕ) × Child p n d × MustPair n c d))

    -- the rule read backwards, at each kind of node
    pub must_clobber_task : {n : ℕ} → p.tree.kind n ≡ task → ¬ MustClobber p f v n
    must_clobber_task k (by_any_of k' a) = clash cc
    must_clobber_task k (by_child k' c hc d l) = clash cc
    must_clobber_task k (by_pair k' c d hc hd q ml mn g) = clash cc

    pub must_clobber_optional : {n : ℕ} → p.tree.kind n ≡ optional → ¬ MustClobber p f v n
    must_clobber_optional k (by_any_of k' a) = clash cc
    must_clobber_optional k (by_child k' c hc d l) = clash cc
    must_clobber_optional k (by_pair k' c d hc hd q ml mn g) = clash cc

    pub must_clobber_any : {n : ℕ} → p.tree.kind n ≡ any_of
        → MustClobber p f v n ↔ ((c : ℕ) → Child p n c → MustClobber p f v c)
    must_clobber_any {n} k = (to, by_any_of k)
      where
        to : MustClobber p f v n → (c : ℕ) → Child p n c → MustClobber p f v c
        to (by_any_of k' a) = a
        to (by_child k' c hc d l) = clash cc
        to (by_pair k' c d hc hd q ml mn g) = clash cc

    pub must_clobber_all : {n : ℕ} → p.tree.kind n ≡ all_of → MustClobber p f v n ↔ MustAll n
    must_clobber_all {n} kn = (to, from)
      where
        to : MustClobber p f v n → MustAll n
        to (by_any_of k a) = clash cc
        to (by_child k c hc d l) = inl (c, hc, (d, l))
        to (by_pair k c d hc hd q ml mn g) = inr (c, hc, (d, hd, (q, (ml, (mn, g)))))

        from : MustAll n → MustClobber p f v n
        from (inl (c, hc, (d, l))) = by_child kn c hc d l
        from (inr (c, hc, (d, hd, (q, (ml, (mn, g)))))) = by_pair kn c d hc hd q ml mn g

    r_must_clobber_in : (k n : ℕ) → Node p n → p.tree.size ≤ n + k
        → Reflects (must_clobber_in p f v k n) (MustClobber p f v n)
    unfolding must_clobber_in
    r_must_clobber_in zero n l b = absurd (omega (arith, w.node_below n l))
    r_must_clobber_in (suc k) n l b = r_by_kind (p.tree.kind n) _ _ _ _ (λ kn. r_false (must_clobber_task kn))
        (λ kn. r_map (Iff·symm (must_clobber_all kn)) (r_either _ _
        (r_some_child p w (λ c. MustClobber p f v c × Alone n c) _
        (λ c hc. r_both _ _ (r_must_clobber_in k c hc.node (omega (arith, child_lt p w hc))) (r_alone n c)))
        (r_some_child p w (λ c. (d : ℕ) × Child p n d × MustPair n c d) _ (λ c hc. r_some_child p w (MustPair n c) _
        (λ d hd. r_both _ _ (r_before p w d c)
        (r_both _ _ (r_must_post p w d f hd.node (not v))
        (r_both _ _ (r_must_pre p w c f hc.node v) (r_undisturbed n c d))))))))
        (λ kn. r_map (Iff·symm (must_clobber_any kn)) (r_every_child p w (MustClobber p f v) _
        (λ c hc. r_must_clobber_in k c hc.node (omega (arith, child_lt p w hc)))))
        (λ kn. r_false (must_clobber_optional kn))

    pub r_must_clobber : (n : ℕ) → Node p n → Reflects (must_clobber_b p n f v) (MustClobber p f v n)
    unfolding must_clobber_b
    r_must_clobber n l = r_must_clobber_in p.tree.size n l (omega arith)
