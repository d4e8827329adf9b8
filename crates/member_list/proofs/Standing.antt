-- The marks of the nodes that stand, from the root down: a child of the root stands if it is a member, and any node
-- below it if its parent does. Assumes nothing.
use mathlib.Core.Path.{◌≡◌, refl, sym, ap, ◌∙◌}
use mathlib.Core.Logic.{by_cases}
use mathlib.Core.Bool.{Bool, true, false}
use mathlib.Core.List.{List}
use Prim.Native.Nat.{ℕ, ◌+◌, ◌<◌}
use native.Mathlib.Decide.{ℕ_discrete}
use native.Mathlib.Omega.{arith}
use lib.Dec.{eqb}
use lib.ListN.{length, get_or, set, length-set}
use lib.Seq.{get_or-set_same, get_or-set_other}
use borrow.Author.Tests.{lt-ltb}
use Rattle.base.proofs.Booleans.{not_passed}
use Rattle.node_sets.specs.Sets.{marked}
use Rattle.base.specs.Zeros.{Zeros}
use Rattle.plan_format.specs.Format.{node_count, parent_of}
use Rattle.plan_rules.specs.Rules.{refusal}
use Rattle.plan_check.specs.Meaning.{plan_of}
use Rattle.plan_check.proofs.Accepted.{clean}
use Rattle.plan_check.proofs.Meaning.{means_well_formed}
use Rattle.plan_check.proofs.Nodes.{is_node}
use Rattle.runs.specs.Tests.{both, negate}
use Rattle.runs.specs.Plan.{Child}
use Rattle.runs.specs.WellFormed.{WellFormed}
use Rattle.runs.specs.Model.Blocked.{stands}
use Rattle.runs.proofs.Reflect.{same_test, true_T, r_map, r_T, r_negate}
use Rattle.runs.proofs.Blocked.Standing.{root_standing, child_standing}
use Rattle.members.specs.Model.{outsider}
use Rattle.members.proofs.Parts.{r_outsider}
use Rattle.plan_blocked.specs.Inner.{Standing}
use Rattle.plan_blocked.proofs.Standing.{parent_lower}
use Rattle.member_list.specs.Members.{member_in}

module _ (b ms : List ℕ) where
  abbrev absent : ℕ → Bool
  absent = outsider (plan_of b) (member_in b ms)

  -- the nodes below c are marked if they stand
  pub record Placed (table : List ℕ) (c : ℕ) : Type 0 where
    pub long : length table ≡ 128
    pub below : (i : ℕ) → i < c → marked table i ≡ stands (plan_of b) absent i

module _ (b ms : List ℕ) (ok : refusal b ≡ 0) where
  abbrev S : ℕ → Bool
  S = absent b ms

  w : WellFormed (plan_of b)
  w = means_well_formed b ok

  root_stands : stands (plan_of b) S 0 ≡ true
  root_stands = root_standing (plan_of b) w S
      (λ y. omega (arith, ((r_outsider (plan_of b) w (member_in b ms) 0).to y).0.not_root))

  as_member : (a : Bool) → both (negate (negate a)) (λ u. true) ≡ a
  unfolding both negate
  as_member true = refl
  as_member false = refl

  pub placed_first : {table : List ℕ} → Zeros 128 table → Placed b ms (set table 0 1) 1
  unfolding marked
  placed_first {table} z = record {
    long = length-set table 0 1 ∙ z.long;
    below = λ i l. let e : i ≡ 0 = omega arith in
        rw (e, get_or-set_same table 0 1 0 (omega (arith, z.long))) (sym root_stands);
  }

  -- the next node, and its parent
  module _ {table : List ℕ} {c g : ℕ} (h : Placed b ms table c) (z : 0 < c) (l : c < node_count b)
      (e : g ≡ parent_of b c) where
    child : Child (plan_of b) g c
    unfolding plan_of
    child = record { not_root = z; node = is_node b c l; up = sym e }

    -- whether the node stands
    here : stands (plan_of b) S c ≡ both (negate (S c)) (λ u. stands (plan_of b) S g)
    unfolding plan_of
    here = child_standing (plan_of b) w S c z (is_node b c l)
        ∙ ap (λ (k : ℕ). both (negate (S c)) (λ u. stands (plan_of b) S k)) (sym e)

    in_table : c < length table
    in_table = omega (arith, l, h.long, (clean b ok).fits.limits.nodes)

    written : (x : ℕ) → eqb x 1 ≡ stands (plan_of b) S c → Placed b ms (set table c x) (c + 1)
    unfolding marked
    written x q = record {
      long = length-set table c x ∙ h.long;
      below = λ i m. by_cases (ℕ_discrete i c)
          (λ (d : i ≡ c). rw (d, get_or-set_same table c x 0 in_table) q)
          (λ n. rw (get_or-set_other table c i x 0 n) (h.below i (omega (arith, n))));
    }

    pub placed_member : g ≡ 0 → Placed b ms (set table c (get_or ms c 0)) (c + 1)
    unfolding member_in
    placed_member q = written (get_or ms c 0)
        (rw (← member) (sym (here ∙ rw (outside, q, root_stands) (as_member (member_in b ms c)))))
      where
        member : member_in b ms c ≡ eqb (get_or ms c 0) 1
        member = rw (lt-ltb c (node_count b) l) refl

        outside : S c ≡ negate (member_in b ms c)
        outside = same_test _ _
            (r_map (λ x. x.1, λ k. (rw q at child, k)) (r_outsider (plan_of b) w (member_in b ms) c))
            (r_negate _ (r_T _))

    pub placed_below : (g ≡ 0 → ⊥) → Placed b ms (set table c (get_or table g 0)) (c + 1)
    unfolding marked both negate
    placed_below k = written (get_or table g 0) (h.below g (parent_lower b ok c g z l e) ∙ sym (here ∙ rw inside refl))
      where
        inside : S c ≡ false
        inside = not_passed _ (λ y.
            k (sym child.up ∙ ((r_outsider (plan_of b) w (member_in b ms) c).to (true_T _ y)).0.up))

  pub placed_all : {table : List ℕ} → Placed b ms table (node_count b) → Standing b S table
  placed_all h = record { is = h.below }
