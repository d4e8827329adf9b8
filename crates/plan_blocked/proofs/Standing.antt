-- The marks of the nodes that stand, from the root down. Assumes nothing.
use mathlib.Core.Path.{◌≡◌, refl, sym, ap, ◌∙◌}
use mathlib.Core.Logic.{by_cases}
use mathlib.Core.Bool.{Bool, true, false, not, ◌||◌}
use mathlib.Core.List.{List, []}
use Prim.Native.Nat.{ℕ, ◌+◌, ◌<◌, ◌≤◌}
use native.Mathlib.Decide.{ℕ_discrete}
use native.Mathlib.Omega.{arith}
use lib.ListN.{length, get_or, set, length-set}
use lib.Seq.{get_or-set_same, get_or-set_other}
use lib.Dec.{T}
use Rattle.node_sets.specs.Sets.{marked, AllMarked}
use Rattle.plan_format.specs.Format.{node_count, parent_of}
use Rattle.plan_rules.specs.Rules.{refusal}
use Rattle.plan_rules.proofs.Causes.{parent_group}
use Rattle.plan_check.specs.Meaning.{plan_of}
use Rattle.plan_check.proofs.Accepted.{clean}
use Rattle.plan_check.proofs.Meaning.{means_well_formed}
use Rattle.plan_check.proofs.Nodes.{is_node}
use Rattle.runs.specs.Tests.{both, negate}
use Rattle.runs.specs.Searches.{listed}
use Rattle.runs.specs.Model.Blocked.{stands}
use Rattle.runs.proofs.Blocked.Standing.{root_standing, child_standing}
use Rattle.runs.proofs.Blocked.Branches.{all_standing}
use Rattle.plan_blocked.specs.Inner.{Standing}

-- the parent of a node but the root is a lower one
pub parent_lower : (b : List ℕ) → refusal b ≡ 0 → (c g : ℕ) → 0 < c → c < node_count b → g ≡ parent_of b c → g < c
parent_lower b ok c g z l e = let k = clean b ok in
    omega (arith, e, (parent_group b k.fits k.parents c z l).0)

-- a mark is there, is taken away, is no other's matter
mark : (table : List ℕ) (n : ℕ) → get_or table n 0 ≡ 1 → marked table n ≡ true
unfolding marked
mark table n e = rw e

cleared : (table : List ℕ) (n : ℕ) → n < length table → marked (set table n 0) n ≡ false
unfolding marked
cleared table n l = rw (get_or-set_same table n 0 0 l)

uncleared : (table : List ℕ) (n i : ℕ) → (i ≡ n → ⊥) → marked (set table n 0) i ≡ marked table i
unfolding marked
uncleared table n i k = rw (get_or-set_other table n i 0 0 k)

-- 'blocked, or the parent does not stand', and not
falls : (x y : Bool) → (x || not y) ≡ true → both (negate x) (λ u. y) ≡ false
unfolding both negate
falls true y q = refl
falls false false q = refl
falls false true q = sym q

rises : (x y : Bool) → (x || not y) ≡ false → both (negate x) (λ u. y) ≡ true
unfolding both negate
rises true y q = sym q
rises false false q = sym q
rises false true q = refl

-- the nodes below c are marked if they stand, all others are marked
pub record Stood (b : List ℕ) (S : ℕ → Bool) (table : List ℕ) (c : ℕ) : Type 0 where
  pub long : length table ≡ 128
  pub below : (i : ℕ) → i < c → marked table i ≡ stands (plan_of b) S i
  pub others : (i : ℕ) → c ≤ i → i < 128 → get_or table i 0 ≡ 1

module _ (b : List ℕ) (ok : refusal b ≡ 0) (S : ℕ → Bool) where
  pub stood_first : {table : List ℕ} → S 0 ≡ false → AllMarked table → Stood b S table 1
  stood_first {table} e all = record {
    long = all.long;
    below = λ i l. let z : i ≡ 0 = omega arith in
        rw z (mark table 0 (all.is 0 (omega arith)) ∙ sym (root_standing (plan_of b) (means_well_formed b ok) S free));
    others = λ i l m. all.is i m;
  }
    where
      free : ¬ T (S 0)
      free x = rw e at x

  module _ {table : List ℕ} {c g : ℕ} (h : Stood b S table c) (z : 0 < c) (l : c < node_count b)
      (e : g ≡ parent_of b c) where
    small : c < 128
    small = omega (arith, l, (clean b ok).fits.limits.nodes)

    -- whether the node stands
    here : stands (plan_of b) S c ≡ both (negate (S c)) (λ u. marked table g)
    unfolding plan_of
    here = child_standing (plan_of b) (means_well_formed b ok) S c z (is_node b c l)
        ∙ ap (λ (v : Bool). both (negate (S c)) (λ u. v))
        (ap (stands (plan_of b) S) (sym e) ∙ sym (h.below g (parent_lower b ok c g z l e)))

    pub absent_here : (S c || not (marked table g)) ≡ true → stands (plan_of b) S c ≡ false
    absent_here t = here ∙ falls (S c) (marked table g) t

    pub stands_here : (S c || not (marked table g)) ≡ false → stands (plan_of b) S c ≡ true
    stands_here t = here ∙ rises (S c) (marked table g) t

    pub stood_out : (S c || not (marked table g)) ≡ true → Stood b S (set table c 0) (c + 1)
    stood_out t = record {
      long = length-set table c 0 ∙ h.long;
      below = λ i m. by_cases (ℕ_discrete i c)
          (λ (q : i ≡ c). rw q (cleared table c (omega (arith, small, h.long)) ∙ sym (absent_here t)))
          (λ q. uncleared table c i q ∙ h.below i (omega (arith, q)));
      others = λ i m k. get_or-set_other table c i 0 0 (λ q. omega (arith, q)) ∙ h.others i (omega arith) k;
    }

    pub stood_in : (S c || not (marked table g)) ≡ false → Stood b S table (c + 1)
    stood_in t = record {
      long = h.long;
      below = λ i m. by_cases (ℕ_discrete i c)
          (λ (q : i ≡ c). rw q (mark table c (h.others c (omega arith) small) ∙ sym (stands_here t)))
          (λ q. h.below i (omega (arith, q)));
      others = λ i m k. h.others i (omega arith) k;
    }

  pub stood_all : {table : List ℕ} → Stood b S table (node_count b) → Standing b S table
  stood_all h = record { is = h.below }

-- with nothing blocked every node stands
pub all_stand : (b : List ℕ) → refusal b ≡ 0 → (table : List ℕ) → AllMarked table → Standing b (listed []) table
unfolding marked
all_stand b ok table all = record {
  is = λ n l. rw (all.is n (omega (arith, l, (clean b ok).fits.limits.nodes)))
      (sym (all_standing (plan_of b) (means_well_formed b ok) n (is_node b n l)));
}
