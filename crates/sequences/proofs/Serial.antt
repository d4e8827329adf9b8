-- The plan under a sequence of the root's children: it is well formed, before is ahead in the sequence, and the
-- children have the marks that they had.
use Rattle.base.proofs.Booleans.{same}
use Rattle.runs.proofs.Base.{◌≡◌, refl, sym, ◌∙◌, fun_ext, ◌⊎◌, inl, inr, ◌↔◌, Bool, List, Among, ℕ, ◌<◌, arith, T}
use Rattle.runs.specs.Searches.{either}
use Rattle.runs.specs.Plan.{all_of, Plan, Child, Under, Before, direct, chain}
use Rattle.runs.specs.WellFormed.{WellFormed}
use Rattle.runs.specs.Verdict.{Clear}
use Rattle.runs.specs.Model.Trees.{before_b}
use Rattle.runs.specs.Branches.{Keeps}
use Rattle.sequences.specs.Sequences.{Ahead, Once, Sequence, InSequence, SerialClear}
use Rattle.sequences.specs.Model.{ahead_b, serial_order, serial}
use Rattle.runs.proofs.Reflect.{Reflects, T_true, true_T, r_either, r_T}
use Rattle.runs.proofs.Plan.Trees.{under_le}
use Rattle.runs.proofs.Plan.Chains.{before_trans, before_irrefl}
use Rattle.runs.proofs.Plan.Reflect.{r_before}
use Rattle.runs.proofs.Blocked.Thinner.{Thinner, thinner_keeps}
use Rattle.sequences.proofs.Lists.{r_ahead, ahead_left, ahead_right, ahead_trans}
use Rattle.sequences.proofs.Ranks.{rank_of, rank_below_size, ranks_rise}

-- chains of orders that agree with a list in which no number comes twice
module _ (xs : List ℕ) (once : Once xs) where
  chain_ahead : (r : Plan) → ((a b : ℕ) → Among b xs → T (r.order a b) → Ahead a b xs) → {a c : ℕ} → Among c xs
      → Before r a c → Ahead a c xs
  chain_ahead r ok i (direct {a = a} {b = b} o) = ok a b i o
  chain_ahead r ok i (chain {a = a} {b = b} o y) =
      let z = chain_ahead r ok i y in ahead_trans once (ok a b (ahead_left z) o) z

pub ahead_of : (p : Plan) (xs : List ℕ) → Sequence p xs → {a b : ℕ} → Among b xs → Before p a b → Ahead a b xs
ahead_of p xs sq = chain_ahead xs sq.once p (λ a b i o. sq.agrees a b (sq.child b i) o)

-- the plan with the sequence's orders, as a test and as the only plan that has them
module _ (p : Plan) (xs : List ℕ) where
  r_serial_order : (a b : ℕ) → Reflects (serial_order p xs a b) (T (p.order a b) ⊎ Ahead a b xs)
  unfolding serial_order
  r_serial_order a b = r_either _ _ (r_T _) (r_ahead xs a b)

  in_sequence : InSequence p xs (serial p xs)
  in_sequence = record {
    tree = refl;
    conditions = refl;
    orders = λ a b. ((r_serial_order a b).to, (r_serial_order a b).from);
  }

  only_serial : {q : Plan} → InSequence p xs q → q ≡ serial p xs
  unfolding serial_order
  only_serial {q} s = rw (← s.tree, ← s.conditions, ← orders) refl
    where
      orders : q.order ≡ serial_order p xs
      orders = fun_ext (λ a. fun_ext (λ b. same (q.order a b) (serial_order p xs a b)
          (λ e. T_true _ ((r_serial_order a b).from ((s.orders a b).0 (true_T _ e))))
          (λ e. T_true _ ((s.orders a b).1 ((r_serial_order a b).to (true_T _ e))))))

  pub serial_clears : {F : ℕ → Bool} → SerialClear p F xs ↔ (Sequence p xs × Clear (serial p xs) F)
  serial_clears {F} = (
    λ x. (x.sequence, rw (only_serial x.ordered) at x.clear),
    λ x. record { sequence = x.0; plan = serial p xs; ordered = in_sequence; clear = x.1 },
  )

module _ (p : Plan) (w : WellFormed p) (kr : p.tree.kind 0 ≡ all_of) (xs : List ℕ) (sq : Sequence p xs) where
  abbrev q : Plan
  q = serial p xs

  -- what is after a child of the root is one
  root_after : {a b : ℕ} → Child p 0 a → Before p a b → Child p 0 b
  root_after {a} ha (direct {b = b} o) = let (g, k, ha', hb) = w.order_group a b o in rw (sym ha'.up ∙ ha.up) at hb
  root_after {a} ha (chain {b = b} o y) =
      let (g, k, ha', hb) = w.order_group a b o in root_after (rw (sym ha'.up ∙ ha.up) at hb) y

  -- a strict relation: before in the plan, or ahead in the sequence
  abbrev Precedes : ℕ → ℕ → Type 0
  Precedes a b = Before p a b ⊎ Ahead a b xs

  precedes_b : ℕ → ℕ → Bool
  precedes_b a b = either (before_b p a b) (λ u. ahead_b xs a b)

  r_precedes : (a b : ℕ) → Reflects (precedes_b a b) (Precedes a b)
  unfolding precedes_b
  r_precedes a b = r_either _ _ (r_before p w a b) (r_ahead xs a b)

  irreflexive : (a : ℕ) → ¬ T (precedes_b a a)
  irreflexive a t = at ((r_precedes a a).to t)
    where
      at : Precedes a a → ⊥
      at (inl y) = before_irrefl p w y
      at (inr y) = sq.once a y

  transitive : (a b c : ℕ) → T (precedes_b a b) → T (precedes_b b c) → T (precedes_b a c)
  transitive a b c s t = (r_precedes a c).from (at ((r_precedes a b).to s) ((r_precedes b c).to t))
    where
      at : Precedes a b → Precedes b c → Precedes a c
      at (inl y) (inl z) = inl (before_trans p y z)
      at (inl y) (inr z) = inr (ahead_trans sq.once (ahead_of p xs sq (ahead_left z) y) z)
      at (inr y) (inl z) =
          inr (ahead_trans sq.once y (ahead_of p xs sq (sq.every c (root_after (sq.child b (ahead_right y)) z)) z))
      at (inr y) (inr z) = inr (ahead_trans sq.once y z)

  group_of : {a b : ℕ} → T (p.order a b) ⊎ Ahead a b xs
      → (g : ℕ) × (p.tree.kind g ≡ all_of) × Child p g a × Child p g b
  group_of {a} {b} (inl o) = w.order_group a b o
  group_of {a} {b} (inr y) = (0, kr, sq.child a (ahead_left y), sq.child b (ahead_right y))

  precedes : {a b : ℕ} → T (p.order a b) ⊎ Ahead a b xs → Precedes a b
  precedes (inl o) = inl (direct o)
  precedes (inr y) = inr y

  pub serial_well_formed : WellFormed q
  serial_well_formed = record {
    root_node = w.root_node;
    node_below = w.node_below;
    parent_lower = w.parent_lower;
    parent_node = w.parent_node;
    parent_group = w.parent_group;
    some_branch = w.some_branch;
    some_part = w.some_part;
    order_group = λ a b o. group_of ((r_serial_order p xs a b).to o);
    on_task = w.on_task;
    inc_post = w.inc_post;
    rank = rank_of p.tree.size precedes_b irreflexive;
    rank_below = λ i l. rank_below_size p.tree.size precedes_b irreflexive i (w.node_below i l);
    rank_rises = λ a b o. let x = (r_serial_order p xs a b).to o in let (g, k, ha, hb) = group_of x in
        ranks_rise p.tree.size precedes_b irreflexive transitive a b (w.node_below a ha.node)
        ((r_precedes a b).from (precedes x));
  }

  -- before, among the root's children, is ahead
  pub before_ahead : {a b : ℕ} → Child p 0 b → Before q a b ↔ Ahead a b xs
  before_ahead {a} {b} hb = (
    chain_ahead xs sq.once q (λ a b i o. at a b i ((r_serial_order p xs a b).to o)) (sq.every b hb),
    λ y. direct
        ((r_serial_order p xs a b).from (inr y)),
  )
    where
      at : (a b : ℕ) → Among b xs → T (p.order a b) ⊎ Ahead a b xs → Ahead a b xs
      at a b i (inl o) = sq.agrees a b (sq.child b i) o
      at a b i (inr y) = y

  -- from any node down the plan is thinner under the sequence; below the root it is the same
  pub serial_thinner : {n : ℕ} → T (p.tree.here n) → Thinner p p.tree (serial_order p xs) n
  serial_thinner l = record {
    present = l;
    same_kind = λ i l. refl;
    same_parent = λ i z l. refl;
    no_other = λ g c ug hc. hc;
    all_parts = λ g c ug k hc. hc;
    all_orders = λ g a b ug ha hb o. (r_serial_order p xs a b).from (inl o);
  }

  pub serial_back : {n : ℕ} → 0 < n → T (p.tree.here n) → Thinner q p.tree p.order n
  serial_back {n} z l = record {
    present = l;
    same_kind = λ i l. refl;
    same_parent = λ i z l. refl;
    no_other = λ g c ug hc. hc;
    all_parts = λ g c ug k hc. hc;
    all_orders = λ g a b ug ha hb o. at g a ug ha ((r_serial_order p xs a b).to o);
  }
    where
      at : {b : ℕ} (g a : ℕ) → Under p n g → Child p g a → T (p.order a b) ⊎ Ahead a b xs → T (p.order a b)
      at g a ug ha (inl o) = o
      at g a ug ha (inr y) =
          absurd (let e : 0 ≡ g = sym (sq.child a (ahead_left y)).up ∙ ha.up in omega (arith, under_le p w ug))

  pub serial_keeps : Keeps p q
  serial_keeps = thinner_keeps p w p.tree (serial_order p xs) serial_well_formed (serial_thinner w.root_node)
