-- Two accepted plans merged under a new all_of root: the merged plan is CLEAR exactly if both are and nothing in one
-- collides with anything in the other.
use Rattle.runs.proofs.Base.{◌≡◌, ◌⊎◌, inl, inr, ◌↔◌, Bool, some, ℕ, ◌+◌, ◌<◌, arith, T, ℕ_discrete}
use Prim.Native.Nat.{◌-◌}
use native.Mathlib.Decide.{dec_lt}
use Rattle.runs.specs.Plan.{all_of, Place, Plan}
use Rattle.runs.specs.WellFormed.{Accepted}
use Rattle.runs.specs.Verdict.{Clear}
use Rattle.merges.specs.Collisions.{BothClear}
use Rattle.merges.proofs.Sides.{sides_clear}
use Rattle.merges.proofs.Halves.{TreeAt, ConditionFrom, OrderFrom, NodeFrom, Halves, sides}

-- where r's nodes begin in the merged plan: after the root and q's nodes
abbrev pub second_at : Plan → ℕ
second_at q = 1 + q.tree.size

-- p merges q and r: "its node, the first book's nodes, then the second's, numbers shifted" (02). F, G and H are the
-- flags of p, q and r at the start.
pub record MergesPlans (p q r : Plan) (F G H : ℕ → Bool) : Type 0 where
  pub size : p.tree.size ≡ r.tree.size + second_at q
  pub root : p.tree.kind 0 ≡ all_of
  pub first : TreeAt p q F G 1
  pub second : TreeAt p r F H (second_at q)
  pub conditions : (l : Place) (x f : ℕ) (v : Bool) → p.conditions.sign l x f ≡ some v
      ↔ (ConditionFrom q 1 l x f v ⊎ ConditionFrom r (second_at q) l x f v)
  pub orders : (x y : ℕ) → T (p.order x y) ↔ (OrderFrom q 1 x y ⊎ OrderFrom r (second_at q) x y)

module _ {p q r : Plan} {F G H : ℕ → Bool} (m : MergesPlans p q r F G H) (whole : Accepted p) (first : Accepted q)
    (second : Accepted r) where
  halves : Halves p q r F G H 1 (second_at q)
  halves = record {
    accepted = whole;
    root = m.root;
    part = record {
      accepted = first;
      at = m.first;
      positive = omega arith;
      fits = λ i l. omega (arith, m.size);
    };
    rest = record {
      accepted = second;
      at = m.second;
      positive = omega arith;
      fits = λ i l. omega (arith, m.size);
    };
    from = λ x l. from x l (ℕ_discrete x 0) (dec_lt x (second_at q));
    disjoint = λ x i n a b. omega (arith, a.is, a.inside, b.is);
    conditions = m.conditions;
    orders = m.orders;
  }
    where
      from : (x : ℕ) → x < p.tree.size → Dec (x ≡ 0) → Dec (x < second_at q)
          → (x ≡ 0) ⊎ (NodeFrom q 1 x ⊎ NodeFrom r (second_at q) x)
      from x l (yes e) d = inl e
      from x l (no ne) (yes b) = inr (inl (x - 1, record { is = omega arith; inside = omega arith }))
      from x l (no ne) (no b) = inr (inr (x - second_at q, record { is = omega arith; inside = omega (arith, m.size) }))

  -- "CLEAR exactly when both are and no literal needed or held in one is held or left opposite in the other" (02)
  pub merges_clear : Clear p F ↔ BothClear q r G H
  merges_clear = sides_clear (sides halves)
