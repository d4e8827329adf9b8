-- Chains through the first i orders, of which the nodes in P count. Those through the first i + 1 are those through the
-- first i and, to its later node, what ends with order i if it counts. Assumes nothing.
use mathlib.Core.Path.{◌≡◌, refl, sym}
use mathlib.Core.Logic.{◌⊎◌, inl, inr, ⊎_elim, by_cases, ◌↔◌}
use mathlib.Core.List.{List}
use Prim.Native.Nat.{ℕ, ◌+◌, ◌<◌, ◌≤◌}
use native.Mathlib.Decide.{ℕ_discrete}
use native.Mathlib.Omega.{arith}
use lib.Dec.{T}
use Rattle.plan_format.specs.Format.{order_count, earlier_of, later_of}
use Rattle.plan_rules.specs.Rules.{refusal, bad_order, cause13, cause14}
use Rattle.runs.proofs.Searches.{none_at}
use Rattle.plan_check.specs.Meaning.{plan_of}
use Rattle.plan_check.proofs.Accepted.{Clean}
use Rattle.plan_rules.proofs.Rising.{first_rises}
use Rattle.plan_check.proofs.Meaning.{siblings, child_is, means}
use Rattle.runs.specs.Plan.{Plan, Before, direct, chain}
use Rattle.runs.proofs.Plan.Chains.{before_trans}

-- (x, y) is one of the first i orders, and both nodes are in P
pub record OrderTo (b : List ℕ) (P : ℕ → Type 0) (i x y : ℕ) : Type 0 where
  pub at : ℕ
  pub below : at < i
  pub earlier : earlier_of b at ≡ x
  pub later : later_of b at ≡ y
  pub earlier_in : P x
  pub later_in : P y

pub data ChainTo (b : List ℕ) (P : ℕ → Type 0) (i : ℕ) : ℕ → ℕ → Type 0 where
  one : {x y : ℕ} → OrderTo b P i x y → ChainTo b P i x y
  more : {x y z : ℕ} → ChainTo b P i x y → OrderTo b P i y z → ChainTo b P i x z

-- of the orders of a whole plan every node counts
abbrev pub AnyNode : ℕ → Type 0
AnyNode x = Unit {0}

-- what rules 13 and 14 leave
pub record Sorted (b : List ℕ) : Type 0 where
  pub rises : (i j : ℕ) → i ≤ j → j < order_count b → earlier_of b i ≤ earlier_of b j
  pub lower : (j : ℕ) → j < order_count b → earlier_of b j < later_of b j
  pub small : (j : ℕ) → j < order_count b → later_of b j < 128

pub sorted : (b : List ℕ) → Clean b → Sorted b
unfolding cause13 cause14 bad_order
sorted b c =
    let w : (j : ℕ) (l : j < order_count b) → (earlier_of b j < later_of b j) × (later_of b j < 128) = λ j l.
    let s = siblings b c (earlier_of b j) (later_of b j) (none_at (order_count b) (bad_order b) c.orders j l) in
    (s.0, omega (arith, (child_is b _ _ s.3).1, c.fits.limits.nodes))
    in
    record {
      rises = first_rises (earlier_of b) (later_of b) (order_count b) c.rising_orders;
      lower = λ j l. (w j l).0;
      small = λ j l. (w j l).1;
    }

module _ (b : List ℕ) (P : ℕ → Type 0) where
  -- there is no order yet
  pub chain_none : {x y : ℕ} → ChainTo b P 0 x y → ⊥
  chain_none (one o) = omega (arith, o.below)
  chain_none (more q o) = omega (arith, o.below)

module _ (b : List ℕ) (P : ℕ → Type 0) (i : ℕ) where
  order_weaken : {x y : ℕ} → OrderTo b P i x y → OrderTo b P (i + 1) x y
  order_weaken o = record {
    at = o.at;
    below = omega (arith, o.below);
    earlier = o.earlier;
    later = o.later;
    earlier_in = o.earlier_in;
    later_in = o.later_in;
  }

  pub chain_weaken : {x y : ℕ} → ChainTo b P i x y → ChainTo b P (i + 1) x y
  chain_weaken (one o) = one (order_weaken o)
  chain_weaken (more q o) = more (chain_weaken q) (order_weaken o)

  -- an order before a chain
  pub chain_cons : {x y z : ℕ} → OrderTo b P i x y → ChainTo b P i y z → ChainTo b P i x z
  chain_cons o (one p) = more (one o) p
  chain_cons o (more q p) = more (chain_cons o q) p

  -- an order is the i-th, or one before it
  order_split : {x y : ℕ} → OrderTo b P (i + 1) x y → OrderTo b P i x y ⊎ ((x ≡ earlier_of b i) × (y ≡ later_of b i))
  order_split o =
      by_cases (ℕ_discrete i o.at) (λ (e : i ≡ o.at). inr (rw e (sym o.earlier), rw e (sym o.later)))
      (λ n. inl (record {
        at = o.at;
        below = omega (arith, o.below);
        earlier = o.earlier;
        later = o.later;
        earlier_in = o.earlier_in;
        later_in = o.later_in;
      }))

  -- order i does not count
  module _ (out : P (earlier_of b i) → P (later_of b i) → ⊥) where
    order_skip : {x y : ℕ} → OrderTo b P (i + 1) x y → OrderTo b P i x y
    order_skip o = ⊎_elim (λ p. p)
        (λ w. absurd (out (rw w.0 at o.earlier_in) (rw w.1 at o.later_in))) (order_split o)

    pub chain_skip : {x y : ℕ} → ChainTo b P (i + 1) x y → ChainTo b P i x y
    chain_skip (one o) = one (order_skip o)
    chain_skip (more q o) = more (chain_skip q) (order_skip o)

  module _ (s : Sorted b) (k : i ≤ order_count b) where
    order_rises : {x y : ℕ} → OrderTo b P i x y → x < y
    order_rises o = omega (arith, s.lower o.at (omega (arith, o.below)), o.earlier, o.later)

    pub chain_rises : {x y : ℕ} → ChainTo b P i x y → x < y
    chain_rises (one o) = order_rises o
    chain_rises (more q o) = omega (arith, order_rises o, chain_rises q)

  module _ (s : Sorted b) (l : i < order_count b) where
    order_low : {x y : ℕ} → OrderTo b P (i + 1) x y → x ≤ earlier_of b i
    order_low o = omega (arith, s.rises o.at i (omega (arith, o.below)) l, o.earlier)

    -- y is the later node of order i, and x its earlier node or before that
    abbrev pub Ends : ℕ → ℕ → Type 0
    Ends x y = (y ≡ later_of b i) × ((x ≡ earlier_of b i) ⊎ ChainTo b P i x (earlier_of b i))

    end : {x y z : ℕ} → (y ≡ earlier_of b i) × (z ≡ later_of b i) → ChainTo b P i x y → Ends x z
    end w q = (w.1, inr (rw w.0 at q))

    pub chain_split : {x y : ℕ} → ChainTo b P (i + 1) x y → ChainTo b P i x y ⊎ Ends x y
    chain_split (one o) = ⊎_elim (λ p. inl (one p)) (λ w. inr (w.1, inl w.0)) (order_split o)
    chain_split (more q o) =
        ⊎_elim
        (λ r. ⊎_elim (λ p. inl (more r p)) (λ w. inr (end w r)) (order_split o))
        (λ w. absurd (omega (arith, w.0, s.lower i l, order_low o)))
        (chain_split q)

    pub chain_ends : {x y : ℕ} → P (earlier_of b i) → P (later_of b i) → Ends x y → ChainTo b P (i + 1) x y
    chain_ends {x} {y} pe pl w =
        let o : OrderTo b P (i + 1) (earlier_of b i) y =
        record {
          at = i;
          below = omega arith;
          earlier = refl;
          later = sym w.0;
          earlier_in = pe;
          later_in = rw w.0 pl;
        } in
        ⊎_elim (λ e. rw e (one o)) (λ q. more (chain_weaken q) o) w.1

-- chains through all orders are those of a plan with these orders
module _ {b : List ℕ} {P : ℕ → Type 0} {p : Plan}
    (same : (x y : ℕ) → T (p.order x y) ↔ OrderTo b P (order_count b) x y) where
  chain_before : {x y : ℕ} → ChainTo b P (order_count b) x y → Before p x y
  chain_before (one {x = x} {y = y} o) = direct ((same x y).1 o)
  chain_before (more {y = y} {z = z} q o) = before_trans p (chain_before q) (direct ((same y z).1 o))

  before_chain : {x y : ℕ} → Before p x y → ChainTo b P (order_count b) x y
  before_chain (direct {a = x} {b = y} o) = one ((same x y).0 o)
  before_chain (chain {a = x} {b = y} o q) = chain_cons b P (order_count b) ((same x y).0 o) (before_chain q)

  pub chains_before : {x y : ℕ} → ChainTo b P (order_count b) x y ↔ Before p x y
  chains_before = (chain_before, before_chain)

-- the orders of the plan that the bytes mean, of which both nodes are in P
pub orders_in : (b : List ℕ) (P : ℕ → Type 0) → refusal b ≡ 0 → (x y : ℕ)
    → (T ((plan_of b).order x y) × (P x × P y)) ↔ OrderTo b P (order_count b) x y
orders_in b P r x y = (
  λ z. let w = ((means b r).order x y).0 z.0 in record {
    at = w.at;
    below = w.below;
    earlier = w.earlier;
    later = w.later;
    earlier_in = z.1.0;
    later_in = z.1.1;
  },
  λ o. (
    ((means b r).order x y).1 (record { at = o.at; below = o.below; earlier = o.earlier; later = o.later }),
    (o.earlier_in, o.later_in),
  ),
)
