-- The ordinals after a start, and where no task starts: they are each of 1 to the number of started tasks exactly once
-- again. Assumes nothing.
use mathlib.Core.Path.{◌≡◌, refl, sym, ap, ◌∙◌}
use mathlib.Core.Logic.{by_cases}
use mathlib.Core.Bool.{true, false, ◌&&◌}
use mathlib.Core.List.{List}
use Prim.Native.Nat.{ℕ, suc, ◌<◌}
use native.Mathlib.Decide.{ℕ_discrete}
use native.Mathlib.Omega.{arith}
use lib.Dec.{eqb}
use borrow.Author.Tests.{eq-eqb, ne_eqb, eqb-true}
use Rattle.base.proofs.Count.{count_same, count_none, count_one_more}
use Rattle.plan_format.specs.Format.{node_count}
use Rattle.base.proofs.Booleans.{and_both, not_passed}
use Rattle.run_starts.specs.Starts.{ordinal_in, started_in, started_count, holders, stray_ordinal}
use Rattle.run_starts.proofs.Numbers.{WellNumbered, started_in_range}

-- the ordinals of z are well formed, and m tasks are started
pub record Numbering (b z : List ℕ) (m : ℕ) : Type 0 where
  pub count : started_count b z ≡ m
  pub well : WellNumbered b z

-- in the state z, after s, task t is started; what is started and numbered elsewhere is so as before
module _ (b s z : List ℕ) (w : WellNumbered b s) (t : ℕ) (l : t < node_count b) (on : started_in b z t ≡ true)
    (kept : (n : ℕ) → n < node_count b → (n ≡ t → ⊥) → started_in b z n ≡ started_in b s n)
    (others : (n : ℕ) → n < node_count b → (n ≡ t → ⊥) → ordinal_in b z n ≡ ordinal_in b s n) where
  no_stray : (n : ℕ) → n < node_count b → stray_ordinal b z n ≡ false
  unfolding stray_ordinal
  no_stray n j = by_cases (ℕ_discrete n t) (λ (e : n ≡ t). rw (e, on))
      (λ e. rw (kept n j e, others n j e) (w.strays n j))

  -- a start: t waited, and takes the next ordinal
  module _ (off : started_in b s t ≡ false) (own : ordinal_in b z t ≡ suc (started_count b s)) where
    one_more : started_count b z ≡ suc (started_count b s)
    unfolding started_count
    one_more = count_one_more (node_count b) (started_in b s) (started_in b z) t l off on kept

    -- the ordinals of others are as many as before
    as_before : (k : ℕ) → (k ≡ suc (started_count b s) → ⊥) → holders b z k ≡ holders b s k
    unfolding holders
    as_before k n = count_same (node_count b) (λ i. started_in b z i && eqb (ordinal_in b z i) k)
        (λ i. started_in b s i && eqb (ordinal_in b s i) k) (λ i j.
        by_cases (ℕ_discrete i t)
        (λ (e : i ≡ t). rw (e, on, own, off, ne_eqb (suc (started_count b s)) k (λ q. n (sym q))))
        (λ e. rw (kept i j e, others i j e)))

    -- the new one is that of t alone
    own_once : holders b z (suc (started_count b s)) ≡ 1
    unfolding holders
    own_once =
        let k = suc (started_count b s) in
        count_one_more (node_count b) (λ i. false) (λ i. started_in b z i && eqb (ordinal_in b z i) k) t l refl
        (rw (on, eq-eqb (ordinal_in b z t) k own)) (λ i j e. not_passed _ (λ y. not_mine i j e y))
        ∙ ap suc (count_none (node_count b) (λ i. false) (λ i j. refl))
      where
        not_mine : (i : ℕ) → i < node_count b → (i ≡ t → ⊥)
            → (started_in b z i && eqb (ordinal_in b z i) (suc (started_count b s))) ≡ true → ⊥
        not_mine i j e y =
            let v = and_both (started_in b z i) (eqb (ordinal_in b z i) (suc (started_count b s))) y in
            let o = eqb-true (ordinal_in b z i) (suc (started_count b s)) v.1 in
            omega (arith, others i j e, (started_in_range b s w i j (sym (kept i j e) ∙ v.0)).1)

    pub start_numbering : Numbering b z (suc (started_count b s))
    start_numbering = record {
      count = one_more;
      well = record {
        strays = no_stray;
        once = λ k j. by_cases (ℕ_discrete k (started_count b s)) (λ (e : k ≡ started_count b s). rw e own_once)
            (λ e. as_before (suc k) (λ q. e (omega arith)) ∙ w.once k (omega (arith, one_more)));
      };
    }

-- in the state z, after s, all is started and numbered as before
module _ (b s z : List ℕ) (w : WellNumbered b s)
    (kept : (n : ℕ) → n < node_count b → started_in b z n ≡ started_in b s n)
    (same : (n : ℕ) → n < node_count b → ordinal_in b z n ≡ ordinal_in b s n) where
  same_count : started_count b z ≡ started_count b s
  unfolding started_count
  same_count = count_same (node_count b) (started_in b z) (started_in b s) kept

  same_holders : (k : ℕ) → holders b z k ≡ holders b s k
  unfolding holders
  same_holders k = count_same (node_count b) (λ i. started_in b z i && eqb (ordinal_in b z i) k)
      (λ i. started_in b s i && eqb (ordinal_in b s i) k) (λ i j. rw (kept i j, same i j))

  stray_none : (n : ℕ) → n < node_count b → stray_ordinal b z n ≡ false
  unfolding stray_ordinal
  stray_none n j = rw (kept n j, same n j) (w.strays n j)

  pub same_numbering : Numbering b z (started_count b s)
  same_numbering = record {
    count = same_count;
    well = record { strays = stray_none; once = λ k j. same_holders (suc k) ∙ w.once k (omega (arith, same_count)) };
  }
