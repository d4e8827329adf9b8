-- The table while it is filled: it has the chains through the first i orders between nodes in P. Assumes nothing.
use mathlib.Core.Path.{◌≡◌, refl, sym, ◌∙◌}
use mathlib.Core.Logic.Iff
use mathlib.Core.Logic.{◌⊎◌, inl, inr, ⊎_elim, by_cases, ◌↔◌}
use mathlib.Core.List.{List}
use Prim.Native.Nat.{ℕ, ◌+◌, ◌*◌, ◌<◌, ◌≤◌}
use native.Mathlib.Decide.{ℕ_discrete, dec_lt}
use native.Mathlib.Omega.{arith}
use lib.Dec.{T}
use lib.ListN.{length}
use Rattle.base.specs.Zeros.{Zeros}
use Rattle.tables.specs.Represents.{code, RepresentsOrder}
use Rattle.plan_format.specs.Format.{node_count, order_count, earlier_of, later_of}
use Rattle.plan_rules.specs.Rules.{refusal}
use Rattle.plan_check.specs.Meaning.{plan_of}
use Rattle.plan_check.proofs.Accepted.{clean}
use Rattle.runs.specs.Plan.{Plan, Node}
use Rattle.table_orders.specs.Links.{Unlinked, Linked, Leading}
use Rattle.table_orders.proofs.Chains.{OrderTo, ChainTo, Sorted, chain_none, chain_weaken, chain_skip}
use Rattle.table_orders.proofs.Chains.{chain_rises, chain_split, chain_ends, chains_before, orders_in}

-- v is the code of x and y
pub record Coded (b : List ℕ) (P : ℕ → Type 0) (i v x y : ℕ) : Type 0 where
  pub before : (v ≡ 1) ↔ ChainTo b P i x y
  pub after : (v ≡ 2) ↔ ChainTo b P i y x

pub record Tabled (b : List ℕ) (P : ℕ → Type 0) (order : List ℕ) (i : ℕ) : Type 0 where
  pub long : length order ≡ 16384
  pub coded : (x y : ℕ) → x < 128 → y < 128 → Coded b P i (code order x y) x y

-- without orders
pub zeros_unlinked : {order : List ℕ} → Zeros 16384 order → Unlinked order
zeros_unlinked {order} h = record {
  long = h.long;
  free = λ x y l m. let z : code order x y ≡ 0 = h.zero (x * 128 + y) (omega arith) in
      (λ e. omega arith, λ e. omega arith);
}

module _ {b order : List ℕ} {P : ℕ → Type 0} where
  pub tabled_none : Unlinked order → Tabled b P order 0
  tabled_none h = record {
    long = h.long;
    coded = λ x y l m. let (n, k) = h.free x y l m in record {
      before = (λ e. absurd (n e), λ q. absurd (chain_none b P q));
      after = (λ e. absurd (k e), λ q. absurd (chain_none b P q));
    };
  }

  pub tabled_unlinked : Tabled b P order 0 → Unlinked order
  tabled_unlinked t = record {
    long = t.long;
    free = λ x y l m. let d = t.coded x y l m in
        (λ e. chain_none b P (d.before.0 e), λ e. chain_none b P (d.after.0 e));
  }

module _ (b : List ℕ) (P : ℕ → Type 0) (i : ℕ) (s : Sorted b) (k : i ≤ order_count b) where
  coded_before : {v x y : ℕ} → v ≡ 1 → ChainTo b P i x y → Coded b P i v x y
  coded_before e q =
      record {
        before = (λ z. q, λ z. e);
        after = (
          λ z. absurd (omega arith),
          λ z. absurd (omega (arith, chain_rises b P i s k q, chain_rises b P i s k z)),
        );
      }

  coded_after : {v x y : ℕ} → v ≡ 2 → ChainTo b P i y x → Coded b P i v x y
  coded_after e q =
      record {
        before = (
          λ z. absurd (omega arith),
          λ z. absurd (omega (arith, chain_rises b P i s k q, chain_rises b P i s k z)),
        );
        after = (λ z. q, λ z. e);
      }

-- order i counts
module _ {b o o' : List ℕ} {P : ℕ → Type 0} {i : ℕ} (s : Sorted b) (l : i < order_count b) (pe : P (earlier_of b i))
    (pl : P (later_of b i)) (t : Tabled b P o i) (h : Linked o o' (later_of b i) (Leading o (earlier_of b i))) where
  small : earlier_of b i < 128
  small = omega (arith, s.lower i l, s.small i l)

  -- what leads to order i is on a chain that ends with it
  chained : {x : ℕ} → x < 128 → Leading o (earlier_of b i) x → ChainTo b P (i + 1) x (later_of b i)
  chained {x} m q =
      chain_ends b P i s l pe pl
      (refl, ⊎_elim (λ e. inl e) (λ w. inr ((t.coded x (earlier_of b i) m small).before.0 w.1)) q)

  -- what does not lead there ends no chain with order i
  kept : {x y : ℕ} → x < 128 → (y ≡ later_of b i → Leading o (earlier_of b i) x → ⊥) → ChainTo b P (i + 1) x y
      → ChainTo b P i x y
  kept {x} {y} m n q =
      ⊎_elim (λ r. r)
      (λ w.
      absurd
      (n w.0
      (⊎_elim (λ e. inl e) (λ r. inr (
        chain_rises b P i s (omega arith) r,
        (t.coded x (earlier_of b i) m small).before.1 r,
      )) w.1)))
      (chain_split b P i s l q)

  same : (x y : ℕ) → x < 128 → y < 128 → (y ≡ later_of b i → Leading o (earlier_of b i) x → ⊥)
      → (x ≡ later_of b i → Leading o (earlier_of b i) y → ⊥)
      → Coded b P (i + 1) (code o' x y) x y
  same x y m m' n k =
      let e = h.kept x y m m' n k in
      let c = t.coded x y m m' in
      record {
        before = (λ v. chain_weaken b P i (c.before.0 (sym e ∙ v)), λ q. e ∙ c.before.1 (kept m n q));
        after = (λ v. chain_weaken b P i (c.after.0 (sym e ∙ v)), λ q. e ∙ c.after.1 (kept m' k q));
      }

  -- whether y is the later node and x leads there
  decide : (x y : ℕ) → ((y ≡ later_of b i) × Leading o (earlier_of b i) x)
      ⊎ (y ≡ later_of b i → Leading o (earlier_of b i) x → ⊥)
  decide x y =
      by_cases (ℕ_discrete y (later_of b i))
      (λ e.
      by_cases (ℕ_discrete x (earlier_of b i)) (λ f. inl (e, inl f))
      (λ f.
      by_cases (dec_lt x (earlier_of b i))
      (λ u.
      by_cases (ℕ_discrete (code o x (earlier_of b i)) 1) (λ v. inl (e, inr (u, v)))
      (λ v. inr (λ z q. ⊎_elim f (λ w. v w.1) q)))
      (λ u. inr (λ z q. ⊎_elim f (λ w. u w.0) q))))
      (λ e. inr (λ z q. e z))

  pub tabled_more : Tabled b P o' (i + 1)
  tabled_more =
      record {
        long = h.long;
        coded = λ x y m m'.
            ⊎_elim
            (λ w. coded_before b P (i + 1) s (omega arith) (rw w.0 (h.ahead x m w.1))
            (rw w.0 (chained m w.1)))
            (λ n.
            ⊎_elim
            (λ w. coded_after b P (i + 1) s (omega arith) (rw w.0 (h.back y m' w.1))
            (rw w.0 (chained m' w.1)))
            (λ k. same x y m m' n k)
            (decide y x))
            (decide x y);
      }

-- order i does not count
pub tabled_skip : {b o : List ℕ} {P : ℕ → Type 0} {i : ℕ} → (P (earlier_of b i) → P (later_of b i) → ⊥) → Tabled b P o i
    → Tabled b P o (i + 1)
tabled_skip {b} {P = P} {i} out t = record {
  long = t.long;
  coded = λ x y l m. let c = t.coded x y l m in record {
    before = (λ v. chain_weaken b P i (c.before.0 v), λ q. c.before.1 (chain_skip b P i out q));
    after = (λ v. chain_weaken b P i (c.after.0 v), λ q. c.after.1 (chain_skip b P i out q));
  };
}

-- all orders are in the table, of a plan that has these
pub tabled_all : {b order : List ℕ} {P : ℕ → Type 0} {p : Plan} → refusal b ≡ 0
    → ((n : ℕ) → Node p n → n < node_count b)
    → ((x y : ℕ) → T (p.order x y) ↔ (T ((plan_of b).order x y) × (P x × P y)))
    → Tabled b P order (order_count b) → RepresentsOrder order p
tabled_all {b} {P = P} {p} r nodes orders t =
    let small : (n : ℕ) → Node p n → n < 128 = λ n h. omega (arith, nodes n h, (clean b r).fits.limits.nodes) in
    let same : (x y : ℕ) → T (p.order x y) ↔ OrderTo b P (order_count b) x y = λ x y.
    Iff.trans (orders x y) (orders_in b P r x y) in
    record {
      before = λ x y m m'. Iff.trans (t.coded x y (small x m) (small y m')).before (chains_before same);
      after = λ x y m m'. Iff.trans (t.coded x y (small x m) (small y m')).after (chains_before same);
    }
