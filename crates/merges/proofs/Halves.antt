-- The two parts of a merged plan, each the tree of one plan under other numbers. Either may come first, so each law is
-- proved of one part only.
use Rattle.runs.proofs.Base.{◌≡◌, refl, sym, ap, ◌∙◌, ◌⊎◌, inl, inr, ◌↔◌, Iff·trans, Bool, Option, none, some, ℕ, ◌+◌}
use Rattle.runs.proofs.Base.{◌<◌, arith, T, ℕ_discrete}
use mathlib.Core.Logic.{⊎_map, ⊎_swap}
use Rattle.runs.specs.Plan.{all_of, Place, Plan, Node, Child}
use Rattle.runs.specs.WellFormed.{Accepted}
use Rattle.runs.proofs.Reflect.{same_test, r_map, r_T}
use Rattle.runs.proofs.Plan.Accepted.{accepted_well_formed}
use Rattle.merges.proofs.Sides.{Side, Sides}

-- The tree of a stands in that of p under the root, node i of a as node i + k of p. F and A are the flags of p and of a
-- at the start.
pub record TreeAt (p a : Plan) (F A : ℕ → Bool) (k : ℕ) : Type 0 where
  pub kinds : (i : ℕ) → i < a.tree.size → p.tree.kind (i + k) ≡ a.tree.kind i
  pub root_parent : p.tree.parent (0 + k) ≡ 0
  pub parents : (i : ℕ) → 0 < i → i < a.tree.size → p.tree.parent (i + k) ≡ a.tree.parent i + k
  pub starts : (f : ℕ) → f < a.conditions.flags → F f ≡ A f

-- a condition, and an order, of a under the numbers of p
abbrev pub ConditionFrom : Plan → ℕ → Place → ℕ → ℕ → Bool → Type 0
ConditionFrom a k l x f v = (t : ℕ) × (x ≡ t + k) × (a.conditions.sign l t f ≡ some v)

abbrev pub OrderFrom : Plan → ℕ → ℕ → ℕ → Type 0
OrderFrom a k x y = (s : ℕ) × (t : ℕ) × (x ≡ s + k) × (y ≡ t + k) × T (a.order s t)

-- ---- one part
-- node x of p is node n of a
pub record Renumbered (a : Plan) (k x n : ℕ) : Type 0 where
  pub is : x ≡ n + k
  pub inside : n < a.tree.size

abbrev pub NodeFrom : Plan → ℕ → ℕ → Type 0
NodeFrom a k x = (n : ℕ) × Renumbered a k x n

pub record AcceptedTree (p a : Plan) (F A : ℕ → Bool) (k : ℕ) : Type 0 where
  pub accepted : Accepted a
  pub at : TreeAt p a F A k
  pub positive : 0 < k
  pub fits : (i : ℕ) → i < a.tree.size → i + k < p.tree.size

module _ {p a : Plan} {F A : ℕ → Bool} {k : ℕ} (s : AcceptedTree p a F A k) where
  -- the parent in p of a node, by that in a
  abbrev ParentOf : ℕ → ℕ → Type 0
  ParentOf x n = ((n ≡ 0) × (p.tree.parent x ≡ 0)) ⊎ ((0 < n) × (p.tree.parent x ≡ a.tree.parent n + k))

  parent_of : {x n : ℕ} → Renumbered a k x n → ParentOf x n
  parent_of {x} {n} r = at (ℕ_discrete n 0)
    where
      at : Dec (n ≡ 0) → ParentOf x n
      at (yes e) = inl (e, rw (r.is, e) s.at.root_parent)
      at (no ne) = inr (omega arith, rw r.is (s.at.parents n (omega arith) r.inside))

  condition_node : {l : Place} {x f : ℕ} {v : Bool} → ConditionFrom a k l x f v → NodeFrom a k x
  condition_node {l} {f = f} {v = v} (t, e, z) = (t, record { is = e; inside = (s.accepted.on_task l t f v z).0 })

  order_node : {x y : ℕ} → OrderFrom a k x y → (n : ℕ) × (0 < n) × Renumbered a k x n
  order_node (m, n, e, g, o) = let (l, (h, i, hm, hn)) = s.accepted.orders m n o in
      (m, hm.not_root, record { is = e; inside = (s.accepted.nodes m).0 hm.node })

  -- a child of p's root is a's root, and no order names it
  only_root : {x n : ℕ} → Renumbered a k x n → Child p 0 x → n ≡ 0
  only_root {x} {n} r h = at (parent_of r)
    where
      at : ParentOf x n → n ≡ 0
      at (inl (e, u)) = e
      at (inr (z, u)) = absurd (omega (arith, u, h.up, s.positive))

  no_order : {x y : ℕ} → Child p 0 x → ¬ OrderFrom a k x y
  no_order h o = let (n, z, r) = order_node o in omega (arith, z, only_root r h)

-- ---- the two parts, in either order
pub record Halves (p a b : Plan) (F A B : ℕ → Bool) (j k : ℕ) : Type 0 where
  pub accepted : Accepted p
  pub root : p.tree.kind 0 ≡ all_of
  pub part : AcceptedTree p a F A j
  pub rest : AcceptedTree p b F B k
  pub from : (x : ℕ) → x < p.tree.size → (x ≡ 0) ⊎ (NodeFrom a j x ⊎ NodeFrom b k x)
  pub disjoint : (x m n : ℕ) → Renumbered a j x m → ¬ Renumbered b k x n
  pub conditions : (l : Place) (x f : ℕ) (v : Bool) → p.conditions.sign l x f ≡ some v
      ↔ (ConditionFrom a j l x f v ⊎ ConditionFrom b k l x f v)
  pub orders : (x y : ℕ) → T (p.order x y) ↔ (OrderFrom a j x y ⊎ OrderFrom b k x y)

exchanged : {p a b : Plan} {F A B : ℕ → Bool} {j k : ℕ} → Halves p a b F A B j k → Halves p b a F B A k j
exchanged h = record {
  accepted = h.accepted;
  root = h.root;
  part = h.rest;
  rest = h.part;
  from = λ x l. ⊎_map (λ e. e) ⊎_swap (h.from x l);
  disjoint = λ x m n r s. h.disjoint x n m s r;
  conditions = λ l x f v. Iff·trans (h.conditions l x f v) (⊎_swap, ⊎_swap);
  orders = λ x y. Iff·trans (h.orders x y) (⊎_swap, ⊎_swap);
}

-- ---- the one part is matched with its plan
same_option : (o u : Option Bool) → ((v : Bool) → o ≡ some v ↔ u ≡ some v) → o ≡ u
same_option none none e = refl
same_option none (some v) e = (e v).1 refl
same_option (some v) u e = sym ((e v).0 refl)

module _ {p a b : Plan} {F A B : ℕ → Bool} {j k : ℕ} (h : Halves p a b F A B j k) where
  same_sign : {x n : ℕ} → Renumbered a j x n → (l : Place) (f : ℕ)
      → p.conditions.sign l x f ≡ a.conditions.sign l n f
  same_sign {x} {n} r l f = same_option (p.conditions.sign l x f) (a.conditions.sign l n f)
      (λ v. (λ e. to v ((h.conditions l x f v).0 e), λ e. (h.conditions l x f v).1 (inl (n, r.is, e))))
    where
      to : (v : Bool) → ConditionFrom a j l x f v ⊎ ConditionFrom b k l x f v → a.conditions.sign l n f ≡ some v
      to v (inl (t, e, z)) = let i : t ≡ n = omega (arith, e, r.is) in rw i at z
      to v (inr z) = let (t, u) = condition_node h.rest z in absurd (h.disjoint x n t r u)

  same_order : {x y m n : ℕ} → Renumbered a j x m → Renumbered a j y n → p.order x y ≡ a.order m n
  same_order {x} {y} {m} {n} r s = same_test (p.order x y) (a.order m n)
      (r_map (λ o. to ((h.orders x y).0 o), λ o. (h.orders x y).1 (inl (m, n, r.is, s.is, o))) (r_T _)) (r_T _)
    where
      to : OrderFrom a j x y ⊎ OrderFrom b k x y → T (a.order m n)
      to (inl (t, u, e, g, o)) =
          let i : t ≡ m = omega (arith, e, r.is) in let i' : u ≡ n = omega (arith, g, s.is) in rw (i, i') at o
      to (inr o) = let (t, z, u) = order_node h.rest o in absurd (h.disjoint x m t r u)

  node_in : {x n : ℕ} → Renumbered a j x n → Node p x × Node a n
  node_in {x} {n} r = (
    (h.accepted.nodes x).1 (rw r.is (h.part.fits n r.inside)),
    (h.part.accepted.nodes n).1 r.inside,
  )

  child_in : {x n : ℕ} → Renumbered a j x n → (c : ℕ) → Child p x c → (d : ℕ) × Child a n d × Renumbered a j c d
  child_in {x} {n} r c hc = at (h.from c ((h.accepted.nodes c).0 hc.node))
    where
      in_part : (d : ℕ) → Renumbered a j c d → ParentOf h.part c d → (d : ℕ) × Child a n d × Renumbered a j c d
      in_part d s (inl (e, u)) = absurd (omega (arith, u, hc.up, r.is, h.part.positive))
      in_part d s (inr (z, u)) =
          (d, record { not_root = z; node = (node_in s).1; up = omega (arith, u, hc.up, r.is) }, s)

      in_rest : (d : ℕ) → Renumbered b k c d → ParentOf h.rest c d → ⊥
      in_rest d s (inl (e, u)) = omega (arith, u, hc.up, r.is, h.part.positive)
      in_rest d s (inr (z, u)) = h.disjoint x n (b.tree.parent d) r (record {
        is = sym hc.up ∙ u;
        inside = omega (arith, (h.rest.accepted.parent_lower d z s.inside).0, s.inside);
      })

      at : (c ≡ 0) ⊎ (NodeFrom a j c ⊎ NodeFrom b k c) → (d : ℕ) × Child a n d × Renumbered a j c d
      at (inl e) = absurd (omega (arith, e, hc.not_root))
      at (inr (inl (d, s))) = in_part d s (parent_of h.part s)
      at (inr (inr (d, s))) = absurd (in_rest d s (parent_of h.rest s))

  child_out : {x n : ℕ} → Renumbered a j x n → (d : ℕ) → Child a n d → (c : ℕ) × Child p x c × Renumbered a j c d
  child_out {x} {n} r d hd = (
    d + j,
    record {
      not_root = omega (arith, h.part.positive);
      node = (node_in s).0;
      up = h.part.at.parents d hd.not_root s.inside ∙ ap (λ (i : ℕ). i + j) hd.up ∙ sym r.is;
    },
    s,
  )
    where
      s : Renumbered a j (d + j) d
      s = record { is = refl; inside = (h.part.accepted.nodes d).0 hd.node }

  side : Side p a F A (Renumbered a j) (0 + j)
  side = record {
    matching = record {
      well_first = accepted_well_formed p h.accepted;
      well_second = accepted_well_formed a h.part.accepted;
      nodes = node_in;
      kinds = λ r. rw r.is (h.part.at.kinds _ r.inside);
      signs = same_sign;
      forth = child_in;
      back = child_out;
      orders = same_order;
      one_first = λ r s. r.is ∙ sym s.is;
      one_second = λ r s. omega (arith, r.is, s.is);
    };
    match = top;
    child = record { not_root = omega (arith, h.part.positive); node = (node_in top).0; up = h.part.at.root_parent };
    starts = h.part.at.starts;
  }
    where
      top : Renumbered a j (0 + j) 0
      top = record { is = refl; inside = h.part.accepted.some_node }

module _ {p a b : Plan} {F A B : ℕ → Bool} {j k : ℕ} (h : Halves p a b F A B j k) where
  -- the children of p's root are the roots of a and of b, unordered
  pub sides : Sides p a b F A B (Renumbered a j) (Renumbered b k) (0 + j) (0 + k)
  sides = record {
    root = h.root;
    first = side h;
    second = side (exchanged h);
    only = λ x hx. only x hx (h.from x ((h.accepted.nodes x).0 hx.node));
    distinct = λ e. h.disjoint (0 + j) 0 0 (side h).match (rw (← e) at (side (exchanged h)).match);
    unordered = λ x y hx hy o. unordered hx ((h.orders x y).0 o);
  }
    where
      only : (x : ℕ) → Child p 0 x → (x ≡ 0) ⊎ (NodeFrom a j x ⊎ NodeFrom b k x) → (x ≡ 0 + j) ⊎ (x ≡ 0 + k)
      only x hx (inl e) = absurd (omega (arith, e, hx.not_root))
      only x hx (inr (inl (n, r))) = inl (r.is ∙ ap (λ (i : ℕ). i + j) (only_root h.part r hx))
      only x hx (inr (inr (n, r))) = inr (r.is ∙ ap (λ (i : ℕ). i + k) (only_root h.rest r hx))

      unordered : {x y : ℕ} → Child p 0 x → ¬ (OrderFrom a j x y ⊎ OrderFrom b k x y)
      unordered hx (inl o) = no_order h.part hx o
      unordered hx (inr o) = no_order h.rest hx o
