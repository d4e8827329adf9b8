-- Ordinals that 16 lets pass. Assumes nothing.
use mathlib.Core.Path.{◌≡◌}
use mathlib.Core.Logic.{◌≢◌, ◌↔◌, ◌⊎◌, inl, inr, ⊎_elim}
use mathlib.Core.Bool.{true, false, not}
use mathlib.Core.List.{List}
use Prim.Native.Nat.{ℕ, suc, ◌<◌, ◌≤◌}
use native.Mathlib.Omega.{arith}
use lib.Dec.{eqb}
use borrow.Author.Tests.{eqb-true, eqb-false, eq-eqb, ne_eqb, not-true, not-false}
use Rattle.base.proofs.Count.{count_le, each_once}
use Rattle.plan_format.specs.Format.{node_count}
use Rattle.base.proofs.Booleans.{either}
use Rattle.runs.proofs.Searches.{some_yes, found_at, none_at, none_all}
use Rattle.run_starts.specs.Starts.{ordinal_in, started_in, started_count, holders, stray_ordinal, misnumbered}

module _ (b s : List ℕ) where
  pub record WellNumbered : Type 0 where
    pub strays : (n : ℕ) → n < node_count b → stray_ordinal b s n ≡ false
    pub once : (k : ℕ) → k < started_count b s → holders b s (suc k) ≡ 1

  pub all_once : misnumbered b s ≡ false → (k : ℕ) → k < started_count b s → holders b s (suc k) ≡ 1
  unfolding misnumbered
  all_once e k l = eqb-true (holders b s (suc k)) 1
      (not-false _ (none_at (started_count b s) (λ j. not (eqb (holders b s (suc j)) 1)) e k l))

  pub once_all : ((k : ℕ) → k < started_count b s → holders b s (suc k) ≡ 1) → misnumbered b s ≡ false
  unfolding misnumbered
  once_all h = none_all (started_count b s) (λ k. not (eqb (holders b s (suc k)) 1))
      (λ k l. rw (eq-eqb (holders b s (suc k)) 1 (h k l)))

  -- a started task whose ordinal is none of 1 to their count; one of these that is not the ordinal of exactly one
  abbrev pub Outside : Type 0
  Outside = (n : ℕ) × (n < node_count b) × (started_in b s n ≡ true)
      × ((ordinal_in b s n ≡ 0) ⊎ (started_count b s < ordinal_in b s n))

  abbrev pub NotOnce : Type 0
  NotOnce = (k : ℕ) × (k < started_count b s) × (holders b s (suc k) ≢ 1)

  -- the ordinal of a started task is one of 1 to their count
  in_range : ((k : ℕ) → k < started_count b s → holders b s (suc k) ≡ 1) → (n : ℕ) → n < node_count b
      → started_in b s n ≡ true → (0 < ordinal_in b s n) × (ordinal_in b s n ≤ started_count b s)
  unfolding holders started_count
  in_range h n l y = each_once (node_count b) (started_in b s) (ordinal_in b s) h n l y

  pub started_in_range : WellNumbered → (n : ℕ) → n < node_count b → started_in b s n ≡ true
      → (0 < ordinal_in b s n) × (ordinal_in b s n ≤ started_count b s)
  started_in_range w = in_range w.once

  -- so the test may also ask for that: a started task's ordinal is 0 or above their count, or some k of 1 to the count
  -- is not the ordinal of exactly one
  pub misnumbered_is : (misnumbered b s ≡ true) ↔ (Outside ⊎ NotOnce)
  unfolding misnumbered
  misnumbered_is = (
    λ e. let w = found_at (started_count b s) (λ k. not (eqb (holders b s (suc k)) 1)) e in
        inr (w.0, w.1, eqb-false (holders b s (suc w.0)) 1 (not-true _ w.2)),
    from,
  )
    where
      from : Outside ⊎ NotOnce → misnumbered b s ≡ true
      from (inl (n, l, y, o)) =
          ⊎_elim (λ (e : misnumbered b s ≡ true). e)
          (λ (e : misnumbered b s ≡ false). let r = in_range (all_once e) n l y in
          absurd (⊎_elim (λ (z : ordinal_in b s n ≡ 0). omega arith)
          (λ (z : started_count b s < ordinal_in b s n). omega arith) o))
          (either (misnumbered b s))
      from (inr (k, l, h)) = some_yes (started_count b s) (λ j. not (eqb (holders b s (suc j)) 1)) k l
          (rw (ne_eqb (holders b s (suc k)) 1 h))

  -- the ordinal of a node that has not been started is 0
  pub unstarted_none : WellNumbered → (n : ℕ) → n < node_count b → started_in b s n ≡ false → ordinal_in b s n ≡ 0
  unfolding stray_ordinal
  unstarted_none w n l y = eqb-true (ordinal_in b s n) 0 (not-false _ (rw y at (w.strays n l)))

  pub ordinal_small : WellNumbered → (n : ℕ) → n < node_count b → ordinal_in b s n ≤ node_count b
  unfolding started_count
  ordinal_small w n l =
      ⊎_elim
      (λ (y : started_in b s n ≡ true).
      omega (arith, (started_in_range w n l y).1, count_le (node_count b) (started_in b s)))
      (λ (y : started_in b s n ≡ false). omega (arith, unstarted_none w n l y))
      (either (started_in b s n))
