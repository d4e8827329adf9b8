-- 29: groups with a child that stands, and any_of groups without one. Assumes nothing.
use mathlib.Core.Path.{◌≡◌, refl, sym, ap, ◌∙◌}
use mathlib.Core.Bool.{Bool, true, false, ◌&&◌}
unfoldable use mathlib.Core.Bool.{decide}
use mathlib.Core.List.{List, Memᴰ as Among}
use Prim.Native.Nat.{ℕ, zero, suc, ◌+◌, ◌<◌, ◌≤◌}
use native.Mathlib.Omega.{arith}
use native.Mathlib.Numerals.{add-one}
use lib.ListN.{length, set, length-set}
use lib.Dec.{eqb}
use borrow.Author.Tests.{lt-ltb}
use Rattle.base.specs.Zeros.{Zeros}
use Rattle.node_sets.specs.Sets.{marked, Each}
use Rattle.node_sets.proofs.Sets.{marked_none, marked_more}
use Rattle.plan_format.specs.Format.{node_count, parent_of, kind_of, is_kind}
use Rattle.plan_rules.specs.Rules.{refusal}
use Rattle.plan_check.specs.Meaning.{kind_at, plan_of}
use Rattle.plan_check.proofs.Accepted.{clean}
use Rattle.plan_check.proofs.Meaning.{kind_limit, means_well_formed}
use Rattle.runs.specs.Tests.{both, negate}
use Rattle.runs.specs.Searches.{either, any_below, any_in, listed}
use Rattle.runs.specs.Plan.{any_of, Plan, Child}
use Rattle.runs.specs.WellFormed.{WellFormed}
use Rattle.runs.specs.Calls.{SomeOf}
use Rattle.runs.specs.Model.Trees.{kind_b, child_b, some_child_b}
use Rattle.runs.specs.Blocked.{Stands, Refused29, no_branch}
use Rattle.runs.specs.Model.Blocked.{stands, refused29_b}
use Rattle.runs.proofs.Reflect.{Reflects, same_test, force, r_map, r_eq, r_both, r_negate}
use Rattle.runs.proofs.Plan.Reflect.{r_kind, r_some_child}
use Rattle.runs.proofs.Calls.Listed.{r_some_of, r_listed, any_same, dec_among}
use Rattle.runs.proofs.Blocked.Standing.{r_stands, stands_down}
use Rattle.runs.proofs.Blocked.Branches.{r_29}
use Rattle.plan_blocked.specs.Inner.{Standing}
use Rattle.plan_blocked.specs.Branches.{WithBranch, emptied_at}
use Rattle.plan_blocked.proofs.Standing.{parent_lower}

sure : (v : Bool) → both v (λ u. true) ≡ v
unfolding both
sure true = refl
sure false = refl

never : (v w : Bool) → either (both v (λ u. false)) (λ u. w) ≡ w
unfolding both either
never true w = refl
never false w = refl

three : (x y z : Bool) → (x && y && z) ≡ both x (λ u. both y (λ u. z))
unfolding both
three true true z = refl
three true false z = refl
three false true z = refl
three false false z = refl

kinds : (k : ℕ) → k ≤ 3 → eqb k 2 ≡ kind_b (kind_at k) any_of
unfolding kind_b kind_at decide
kinds zero l = refl
kinds (suc zero) l = refl
kinds (suc (suc zero)) l = refl
kinds (suc (suc (suc zero))) l = refl
kinds (suc (suc (suc (suc k)))) l = absurd (omega arith)

module _ (b : List ℕ) (S : ℕ → Bool) where
  -- c is a child of g, and stands
  unfoldable pub branch : ℕ → ℕ → Bool
  branch g c = both (child_b (plan_of b) g c) (λ u. stands (plan_of b) S c)

  -- marks of the groups that have such a child among the nodes below c
  pub record Partly (marks : List ℕ) (c : ℕ) : Type 0 where
    pub long : length marks ≡ 128
    pub is : (g : ℕ) → marked marks g ≡ any_below c (branch g)

  pub partly_first : {marks : List ℕ} → Zeros 128 marks → Partly marks 1
  unfolding branch child_b both either any_below listed any_in
  partly_first {marks} z = record { long = z.long; is = λ g. ap (λ (S : ℕ → Bool). S g) (marked_none marks z) }

  module _ {marks : List ℕ} {c : ℕ} (h : Partly marks c) (z : 0 < c) (l : c < node_count b) where
    more : (g : ℕ) → any_below (c + 1) (branch g) ≡ either (branch g c) (λ u. any_below c (branch g))
    unfolding any_below
    more g = rw (add-one c)

    here : (g : ℕ) → branch g c ≡ both (eqb (parent_of b c) g) (λ u. stands (plan_of b) S c)
    unfolding branch child_b plan_of both
    here g = rw (lt-ltb 0 c z, lt-ltb c (node_count b) l)

    pub partly_more : (g : ℕ) → g ≡ parent_of b c → g < 128 → stands (plan_of b) S c ≡ true
        → Partly (set marks g 1) (c + 1)
    partly_more g e m y = record {
      long = length-set marks g 1 ∙ h.long;
      is = λ x. marked_more marks g (omega (arith, m, h.long)) x
          ∙ rw (h.is x) (ap (λ (v : Bool). either v (λ u. any_below c (branch x))) (at x)) ∙ sym (more x);
    }
      where
        at : (x : ℕ) → eqb x g ≡ branch x c
        at x = same_test _ _ (r_map (λ q. sym q, λ q. sym q) (r_eq x g)) (r_eq g x)
            ∙ sym (here x ∙ rw (y, sym e) (sure (eqb g x)))

    pub partly_same : stands (plan_of b) S c ≡ false → Partly marks (c + 1)
    partly_same y = record {
      long = h.long;
      is = λ x. h.is x ∙ sym (more x ∙ rw (here x, y) (never (eqb (parent_of b c) x) _));
    }

  pub partly_all : {marks : List ℕ} → Partly marks (node_count b) → WithBranch b S marks
  unfolding branch some_child_b plan_of
  partly_all h = record { is = λ g l. h.is g }

-- 29 by the tables: a group without a branch that stands has one that is blocked, so the parents of these are enough
module _ (b xs table marks : List ℕ) (ok : refusal b ≡ 0) (nodes : Each xs (λ s. (0 < s) × (s < node_count b)))
    (h : Standing b (listed xs) table) (m : WithBranch b (listed xs) marks) where
  abbrev p : Plan
  p = plan_of b

  w : WellFormed p
  w = means_well_formed b ok

  abbrev S : ℕ → Bool
  S = listed xs

  -- g stands, is an any_of group, and no child of it stands; and its test
  Bare : ℕ → Type 0
  Bare g = Stands p S g × ((p.tree.kind g ≡ any_of) × (¬ ((c : ℕ) × Child p g c × Stands p S c)))

  bare : ℕ → Bool
  bare g = both (stands p S g) (λ u. both (kind_b (p.tree.kind g) any_of) (λ u. negate (some_child_b p g (stands p S))))

  r_bare : (g : ℕ) → Reflects (bare g) (Bare g)
  unfolding bare Bare
  r_bare g = r_both _ _ (r_stands p w S g) (r_both _ _ (r_kind _ _)
      (r_negate _ (r_some_child p w (Stands p S) (stands p S) (λ c hc. r_stands p w S c))))

  emptied_is : (s : ℕ) → Among s xs → emptied_at b table marks s ≡ bare (parent_of b s)
  unfolding emptied_at bare negate plan_of is_kind
  emptied_is s i =
      let g : parent_of b s < s = parent_lower b ok s (parent_of b s) (nodes s i).0 (nodes s i).1 refl in
      let l : parent_of b s < node_count b = omega (arith, g, (nodes s i).1) in
      rw (
        h.is _ l,
        m.is _ l,
        lt-ltb (parent_of b s) (node_count b) l,
        kinds (kind_of b (parent_of b s))
            (kind_limit b (clean b ok) _ l),
      )
      (three _ _ _)

  pub emptied_29 : any_in xs (emptied_at b table marks) ≡ refused29_b p xs
  unfolding Bare plan_of
  emptied_29 = any_same xs _ _ emptied_is
      ∙ same_test _ _ (r_map (to, from) (r_some_of (λ s. Bare (parent_of b s)) xs _ (λ s. r_bare (parent_of b s))))
      (r_29 p w xs)
    where
      to : SomeOf xs (λ s. Bare (parent_of b s)) → Refused29 p xs
      to (s, i, (x, (k, n))) = no_branch (parent_of b s) x k (λ c hc y. n (c, hc, y))

      -- a child of such a group is blocked
      blocked : {g c : ℕ} → Child p g c → Stands p S g → ¬ Stands p S c → Among c xs
      blocked {g} {c} hc x n = force (dec_among c xs) (λ y. n (stands_down p w S hc (λ t. y ((r_listed xs c).to t)) x))

      from : Refused29 p xs → SomeOf xs (λ s. Bare (parent_of b s))
      from (no_branch g x k n) = let (c, hc) = w.some_branch g x.node k in
          (c, blocked hc x (n c hc), rw hc.up (x, (k, λ (d, hd, y). n d hd y)))
