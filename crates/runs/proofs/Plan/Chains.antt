-- Chains of orders: they stay among the children of one group, and their rank rises.
use Rattle.runs.proofs.Base.{sym, ◌∙◌, ℕ, ◌<◌, arith, T}
use Rattle.runs.specs.Plan.{Plan, Node, Child, Before, direct, chain}
use Rattle.runs.specs.WellFormed.{WellFormed}

module _ (p : Plan) where
  pub before_trans : {a b c : ℕ} → Before p a b → Before p b c → Before p a c
  before_trans (direct o) r = chain o r
  before_trans (chain o q) r = chain o (before_trans q r)

  module _ (w : WellFormed p) where
    pub order_child : {n b : ℕ} (a : ℕ) → Child p n b → T (p.order a b) → Child p n a
    order_child {n} {b} a hb o = let (g, kg, ha, hb') = w.order_group a b o in rw (sym hb'.up ∙ hb.up) at ha

    pub before_child : {n a b : ℕ} → Child p n b → Before p a b → Child p n a
    before_child hb (direct {a = a} o) = order_child a hb o
    before_child hb (chain {a = a} o q) = order_child a (before_child hb q) o

    pub before_node : {a b : ℕ} → Before p a b → Node p b
    before_node (direct {a = a} {b = b} o) = (w.order_group a b o).3.node
    before_node (chain o q) = before_node q

    pub before_rank : {a b : ℕ} → Before p a b → w.rank a < w.rank b
    before_rank (direct {a = a} {b = b} o) = w.rank_rises a b o
    before_rank (chain {a = a} {b = b} o q) = omega (arith, w.rank_rises a b o, before_rank q)

    pub before_irrefl : {a : ℕ} → Before p a a → ⊥
    before_irrefl q = omega (arith, before_rank q)
