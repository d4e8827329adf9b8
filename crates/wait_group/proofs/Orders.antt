-- The orders of a node, found and followed. Assumes nothing.
use mathlib.Core.Path.{◌≡◌, sym, ap, ◌∙◌}
use mathlib.Core.Logic.{by_cases}
use mathlib.Core.List.{List}
use Prim.Native.Nat.{ℕ, max, ◌+◌, ◌<◌, ◌≤◌}
use native.Mathlib.Decide.{ℕ_discrete, dec_lt}
use native.Mathlib.Omega.{arith}
use lib.ListN.{length, get_or, set, length-set}
use lib.Seq.{get_or-set_same, get_or-set_other}
use Rattle.plan_format.specs.Format.{order_count, earlier_of, later_of}
use Rattle.std.specs.List.Sorted.{IsNonDecreasingBy, IsPartitionPoint}
use Rattle.std.proofs.lemmas.List.Sorted.{IsNonDecreasingBy-from_default}
use borrow.Author.Tests.{ltb-true, ltb-false}
use mathlib.Core.Bool.{true, false}
use lib.Dec.{ltb}
use Rattle.table_orders.proofs.Chains.{Sorted}
use Rattle.wait_group.specs.Spread.{FirstOrder, Raised}

-- ---- the first order of a node, among the earlier nodes of all orders
module _ {b : List ℕ} (earlier : List ℕ) (long : length earlier ≡ order_count b)
    (each : (j : ℕ) → j < order_count b → get_or earlier j 0 ≡ earlier_of b j) where
  pub earlier_rise : Sorted b → IsNonDecreasingBy (λ x. x) earlier
  earlier_rise s = IsNonDecreasingBy-from_default (λ x. x) earlier 0
      (λ i j l m. omega (
        arith,
        long,
        each i (omega (arith, long)),
        each j (omega (arith, long)),
        s.rises i j l (omega (arith, long)),
      ))

  pub first_found : {c r : ℕ} → r ≤ length earlier
      → IsPartitionPoint (λ x. ltb x c ≡ true) (λ x. ltb x c ≡ false) earlier r → FirstOrder b c r
  first_found {c} {r} l p = record {
    inside = omega (arith, long);
    below = λ j k. let e = each j (omega (arith, long)) in rw e at (ltb-true _ c (p.0 j 0 (omega arith) k));
    from = λ j k m. let e = each j m in rw e at (ltb-false _ c (p.1 j 0 k (omega (arith, long))));
  }

-- ---- the waits of the later nodes of c, by its orders below j
pub record RaisedTo (b waits waits' : List ℕ) (c v j : ℕ) : Type 0 where
  pub inside : j ≤ order_count b
  pub long : length waits' ≡ 128
  pub grown : (m : ℕ) → get_or waits m 0 ≤ get_or waits' m 0
  pub reached : (i : ℕ) → i < j → earlier_of b i ≡ c → v ≤ get_or waits' (later_of b i) 0
  pub only : (m u : ℕ) → get_or waits m 0 ≤ u
      → ((i : ℕ) → i < order_count b → earlier_of b i ≡ c → later_of b i ≡ m → v ≤ u) → get_or waits' m 0 ≤ u
  pub from : (i : ℕ) → j ≤ i → i < order_count b → c ≤ earlier_of b i

module _ {b waits : List ℕ} {c v : ℕ} where
  pub raised_none : {j : ℕ} → length waits ≡ 128 → FirstOrder b c j → RaisedTo b waits waits c v j
  raised_none l f = record {
    inside = f.inside;
    long = l;
    grown = λ m. omega arith;
    reached = λ i q e. absurd (omega (arith, f.below i q));
    only = λ m u a h. a;
    from = f.from;
  }

  pub raised_more : {w : List ℕ} {j l x : ℕ} → Sorted b → j < order_count b → earlier_of b j ≡ c → l ≡ later_of b j
      → x ≡ max (get_or w l 0) v
      → RaisedTo b waits w c v j → RaisedTo b waits (set w l x) c v (j + 1)
  raised_more {w} {j} {l} {x} s k e q z h = record {
    inside = omega arith;
    long = length-set w l x ∙ h.long;
    grown = λ m. omega (arith, h.grown m, up m);
    reached = λ i o p. by_cases (ℕ_discrete i j) (λ (y : i ≡ j). rw (y, ← q) (omega (arith, same)))
        (λ y. omega (arith, h.reached i (omega arith) p, up (later_of b i)));
    only = λ m u a f. by_cases (ℕ_discrete m l)
        (λ (y : m ≡ l). omega (
          arith,
          ap (λ (i : ℕ). get_or (set w l x) i 0) y,
          ap (λ (i : ℕ). get_or w i 0) y,
          same,
          h.only m u a f,
          f j k e (sym q ∙ sym y),
        ))
        (λ y. omega (arith, other m y, h.only m u a f));
    from = λ i o p. h.from i (omega arith) p;
  }
    where
      same : get_or (set w l x) l 0 ≡ max (get_or w l 0) v
      same = get_or-set_same w l x 0 (omega (arith, s.small j k, h.long, q)) ∙ z

      other : (m : ℕ) → (m ≡ l → ⊥) → get_or (set w l x) m 0 ≡ get_or w m 0
      other m y = get_or-set_other w l m x 0 y

      up : (m : ℕ) → get_or w m 0 ≤ get_or (set w l x) m 0
      up m = by_cases (ℕ_discrete m l) (λ (y : m ≡ l). rw y (omega (arith, same))) (λ y. omega (arith, other m y))

  pub raised_all : {w : List ℕ} {j : ℕ} → ((i : ℕ) → j ≤ i → i < order_count b → earlier_of b i ≡ c → ⊥)
      → RaisedTo b waits w c v j → Raised b waits w c v
  raised_all {w} {j} f h = record {
    long = h.long;
    grown = h.grown;
    reached = λ i l e. by_cases (dec_lt i j) (λ (q : i < j). h.reached i q e) (λ q. absurd (f i (omega arith) l e));
    only = h.only;
  }

  -- the next order is another node's, and so are all after it
  pub raised_stop : {w : List ℕ} {j : ℕ} → Sorted b → j < order_count b → (earlier_of b j ≡ c → ⊥)
      → RaisedTo b waits w c v j → Raised b waits w c v
  raised_stop {j = j} s l e h = raised_all (λ i q o z. e (omega (arith, s.rises j i q o, h.from j (omega arith) l))) h
