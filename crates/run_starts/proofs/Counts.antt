-- The counts of ordinals, node by node. Assumes nothing.
use mathlib.Core.Path.{◌≡◌, sym, ◌∙◌}
use mathlib.Core.Bool.{Bool, true, false, cond, ◌&&◌, and-false}
use mathlib.Core.List.{List, ◌∷◌}
use Prim.Native.Nat.{ℕ, zero, suc, ◌+◌, ◌<◌, ◌≤◌}
use native.Mathlib.Omega.{arith}
use lib.ListN.{length, get_or, set}
use lib.Dec.{eqb}
use borrow.Author.Tests.{eq-eqb, ne_eqb, eqb-true}
use Rattle.std.specs.List.{filter, range_with_len}
use Rattle.base.specs.Count.{num, count_below}
use Rattle.base.proofs.Count.{count_le, count_more}
use Rattle.plan_format.specs.Format.{node_count}
use Rattle.base.proofs.Tally.{Tallied, tally_one, tally_none}
use Rattle.base.proofs.Booleans.{and_both, not_passed}
use Rattle.run_starts.specs.Starts.{ordinal_in, started_in, started_count}

-- an element of a list, as `filter` and `count` count it
filtered : (y : Bool) (n : ℕ) (xs : List ℕ) → length (cond y (n ∷ xs) xs) ≡ num y + length xs
filtered true n xs = omega arith
filtered false n xs = omega arith

-- the numbers below m, and the n from m on
counted_from : (m n : ℕ) (q : ℕ → Bool)
    → count_below (m + n) q ≡ count_below m q + length (filter q (range_with_len m n))
counted_from m zero q = let e : m + 0 ≡ m = omega arith in rw e (omega arith)
counted_from m (suc n) q =
    let e : m + suc n ≡ m + 1 + n = omega arith in
    rw e (omega (
      arith,
      counted_from (m + 1) n q,
      count_more m q,
      filtered (q m) m (filter q (range_with_len (m + 1) n)),
    ))

pub counted : (n : ℕ) (q : ℕ → Bool) → length (filter q (range_with_len 0 n)) ≡ count_below n q
unfolding count_below
counted n q =
    let e : 0 + n ≡ n = omega arith in
    omega (arith, rw e at (counted_from 0 n q))

module _ (b s : List ℕ) where
  pub started_le : started_count b s ≤ node_count b
  unfolding started_count
  started_le = count_le (node_count b) (started_in b s)

  -- node n is a started task, and its ordinal is k
  abbrev pub holds : ℕ → ℕ → Bool
  holds k n = started_in b s n && eqb (ordinal_in b s n) k

  -- the table after i nodes
  abbrev pub HeldTo : ℕ → List ℕ → Type 0
  HeldTo i t = Tallied holds 129 i t

  module _ (i k : ℕ) (e : k ≡ ordinal_in b s i) (t u : List ℕ) (held : HeldTo i t) where
    pub held_one : started_in b s i ≡ true → k < 129 → u ≡ set t k (get_or t k 0 + 1) → HeldTo (i + 1) u
    held_one y l q =
        tally_one holds 129 i t u held k l (rw (y, eq-eqb (ordinal_in b s i) k (sym e)))
        (λ h n. rw (ne_eqb (ordinal_in b s i) h (λ z. n (sym (e ∙ z)))) (and-false (started_in b s i))) q

    pub held_none : (started_in b s i ≡ true → k < 129 → ⊥) → u ≡ t → HeldTo (i + 1) u
    held_none n q =
        tally_none holds 129 i t u held
        (λ h l. not_passed (holds h i) (λ z.
        let w = and_both (started_in b s i) (eqb (ordinal_in b s i) h) z in
        n w.0 (omega (arith, eqb-true (ordinal_in b s i) h w.1)))) q
