-- The tree: a node is under one child of a group at most; every node is under the root; induction from the leaves up.
use Rattle.runs.proofs.Base.{◌≡◌, refl, sym, ◌⊎◌, inl, inr, ℕ, zero, suc, ◌+◌, ◌<◌, ◌≤◌, arith}
use Rattle.runs.specs.Plan.{Plan, itself, below, Node, Child, Under}
use Rattle.runs.specs.WellFormed.{WellFormed}

module _ (p : Plan) where
  pub under_trans : {a b c : ℕ} → Under p a b → Under p b c → Under p a c
  under_trans u itself = u
  under_trans u (below z l v) = below z l (under_trans u v)

  pub child_under : {g i : ℕ} → Child p g i → Under p g i
  child_under {g} {i} c = below c.not_root c.node (rw c.up itself)

  -- both above t: one is above the other
  under_chain : {a b t : ℕ} → Under p a t → Under p b t → Under p a b ⊎ Under p b a
  under_chain itself v = inr v
  under_chain (below z l u) itself = inl (below z l u)
  under_chain (below z l u) (below z' l' v) = under_chain u v

  -- the child of g through which t is under g
  pub record Branch (g t : ℕ) : Type 0 where
    pub via : ℕ
    pub child : Child p g via
    pub beneath : Under p via t

  pub branch : {g t : ℕ} → Under p g t → (g ≡ t) ⊎ Branch g t
  branch itself = inl refl
  branch {g} (below {n = t} z l u) = go (branch u)
    where
      go : (g ≡ p.tree.parent t) ⊎ Branch g (p.tree.parent t) → (g ≡ t) ⊎ Branch g t
      go (inl e) = inr (record { via = t; child = record { not_root = z; node = l; up = sym e }; beneath = itself })
      go (inr b) = inr (record { via = b.via; child = b.child; beneath = below z l b.beneath })

  pub under_node : {a t : ℕ} → Node p a → Under p a t → Node p t
  under_node l itself = l
  under_node l (below z s u) = s

  module _ (w : WellFormed p) where
    pub under_le : {a t : ℕ} → Under p a t → a ≤ t
    under_le itself = omega arith
    under_le (below {n = t} z l u) = omega (arith, w.parent_lower t z l, under_le u)

    pub child_lt : {g i : ℕ} → Child p g i → g < i
    child_lt {g} {i} c = rw (← c.up) (w.parent_lower i c.not_root c.node)

    pub child_parent : {g c : ℕ} → Child p g c → Node p g
    child_parent {g} {c} hc = rw hc.up at (w.parent_node c hc.not_root hc.node)

    -- two children of g, one under the other, are one
    under_child : {g b c : ℕ} → Child p g b → Child p g c → Under p b c → b ≡ c
    under_child {g} {b} {c} hb hc u = go c hc u
      where
        go : (x : ℕ) → Child p g x → Under p b x → b ≡ x
        go x hx itself = refl
        go x hx (below z l v) = absurd (omega (arith, child_lt hb, under_le (rw hx.up at v)))

    -- a node is under one child of g at most
    pub one_branch : {g b c t : ℕ} → Child p g b → Child p g c → Under p b t → Under p c t → b ≡ c
    one_branch {g} {b} {c} hb hc ub uc = go (under_chain ub uc)
      where
        go : Under p b c ⊎ Under p c b → b ≡ c
        go (inl u) = under_child hb hc u
        go (inr u) = sym (under_child hc hb u)

    under_root_in : (k t : ℕ) → t ≤ k → Node p t → Under p 0 t
    under_root_in zero t b l = let z : 0 ≡ t = omega arith in rw (← z) itself
    under_root_in (suc k) zero b l = itself
    under_root_in (suc k) (suc t) b l = below {n = suc t} (omega arith) l
        (under_root_in k (p.tree.parent (suc t)) (omega (arith, w.parent_lower (suc t) (omega arith) l))
        (w.parent_node (suc t) (omega arith) l))

    -- every node is under the root
    pub under_root : (t : ℕ) → Node p t → Under p 0 t
    under_root t l = under_root_in t t (omega arith) l

    from_leaves_in : (P : ℕ → Type 0) → ((n : ℕ) → Node p n → ((c : ℕ) → Child p n c → P c) → P n) → (k n : ℕ)
        → Node p n → p.tree.size ≤ n + k → P n
    from_leaves_in P f zero n h b = absurd (omega (arith, w.node_below n h))
    from_leaves_in P f (suc k) n h b = f n h (λ c hc. from_leaves_in P f k c hc.node (omega (arith, child_lt hc)))

    -- induction from the leaves up
    pub from_leaves : (P : ℕ → Type 0) → ((n : ℕ) → Node p n → ((c : ℕ) → Child p n c → P c) → P n) → (n : ℕ) → Node p n
        → P n
    from_leaves P f n h = from_leaves_in P f p.tree.size n h (omega arith)
