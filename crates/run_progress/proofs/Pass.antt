-- The table of counts, turn by turn. Assumes nothing.
use mathlib.Core.Path.{◌≡◌, refl, sym, ◌∙◌}
use mathlib.Core.Logic.{by_cases}
use mathlib.Core.Bool.{Bool, true, false, not, ◌&&◌, beq, true≢false}
use mathlib.Core.List.{List}
use Prim.Native.Nat.{ℕ, ◌+◌, ◌-◌, ◌<◌, ◌≤◌}
use native.Mathlib.Decide.{ℕ_discrete}
use native.Mathlib.Omega.{arith}
use lib.ListN.{length, get_or, set}
use Rattle.plan_format.specs.Format.{node_count, parent_of, is_kind}
use Rattle.plan_rules.specs.Rules.{is_child}
use Rattle.base.proofs.Booleans.{and_both, and_of, not_passed}
use Rattle.plan_rules.proofs.Causes.{parent_group}
use Rattle.plan_check.proofs.Meaning.{child_is}
use Rattle.plan_check.specs.Meaning.{plan_of}
use Rattle.plan_check.proofs.Nodes.{child_test, is_node}
use Rattle.runs.specs.Tests.{same_b}
use Rattle.runs.specs.Model.Monitor.{complete_b, begun_b}
use Rattle.run_state.specs.State.{status_in}
use Rattle.run_state.specs.Inner.{state_refusal}
use Rattle.run_state.proofs.Passed.{has_room}
use Rattle.base.specs.Count.{count_below}
use Rattle.base.specs.Zeros.{Zeros}
use Rattle.run_progress.specs.Progress.{counted_at, counted_child, children_counted}
use Rattle.run_progress.specs.declared.Tally.{Tally}
use Rattle.run_progress.specs.declared.Tally.TheVariants.{Begun, Ends}
use Rattle.base.proofs.Count.{count_le, count_rest, count_back}
use Rattle.base.proofs.Tally.{tally_start, tally_one, tally_none}

-- the child counted at g in turn i
abbrev turn : Tally → List ℕ → List ℕ → ℕ → ℕ → Bool
turn k b s g i = counted_child k b s g (node_count b - 1 - i)

-- the counted children of g among the last m nodes
unfoldable pub part : Tally → List ℕ → List ℕ → ℕ → ℕ → ℕ
part k b s m g = count_below m (turn k b s g)

-- the table t after m turns
abbrev pub Holds : Tally → List ℕ → List ℕ → ℕ → List ℕ → Type 0
Holds k b s m t = (length t ≡ 128) × ((g : ℕ) → g < 128 → get_or t g 0 ≡ part k b s m g)

pub none_yet : (k : Tally) (b s t : List ℕ) → Zeros 128 t → Holds k b s 0 t
unfolding part
none_yet k b s t z = tally_start (turn k b s) 128 t z

pub part_le : (k : Tally) (b s : List ℕ) (m g : ℕ) → part k b s m g ≤ m
unfolding part
part_le k b s m g = count_le m _

module _ (k : Tally) (b s : List ℕ) (ok : state_refusal b s ≡ 0) where
  -- a child has a higher number
  lower : (g c : ℕ) → is_child b g c ≡ true → g < c
  lower g c h =
      let w = child_is b g c h in
      let r = (has_room b s ok).plan in
      omega (arith, (parent_group b r.fits r.parents c w.0 w.1).0, w.2)

  not_counted : (g c : ℕ) → c ≤ g → counted_child k b s g c ≡ false
  unfolding counted_child
  not_counted g c l = not_passed _
      (λ y. omega (arith, lower g c (and_both (is_child b g c) (counted_at k b s g c) y).0))

  from_back : (m g : ℕ) → m ≤ node_count b → node_count b ≤ g + 1 + m → part k b s m g ≡ children_counted k b s g
  unfolding part children_counted
  from_back m g l h =
      sym (count_rest (node_count b) m (λ i. counted_child k b s g (node_count b - 1 - i)) l
      (λ i a z. not_counted g (node_count b - 1 - i) (omega arith)))
      ∙ count_back (node_count b) (counted_child k b s g)

  -- all children of the node of turn m have been counted
  pub own : (m c : ℕ) → m + 1 < node_count b → c ≡ node_count b - 1 - m → part k b s m c ≡ children_counted k b s c
  own m c l e = from_back m c (omega arith) (omega arith)

  pub all_counted : (m g : ℕ) → m + 1 ≡ node_count b → part k b s m g ≡ children_counted k b s g
  all_counted m g e = from_back m g (omega arith) (omega arith)

  module _ (m c g : ℕ) (l : m + 1 < node_count b) (ec : c ≡ node_count b - 1 - m) (eg : g ≡ parent_of b c) where
    child : is_child b g c ≡ true
    unfolding is_child plan_of
    child = child_test b g c (record { not_root = omega arith; node = is_node b c (omega arith); up = sym eg })

    pub parent_small : g < 128
    parent_small = let r = (has_room b s ok).plan in omega (arith, lower g c child, r.fits.limits.nodes)

    other_parent : (h : ℕ) → (h ≡ g → ⊥) → counted_child k b s h c ≡ false
    unfolding counted_child
    other_parent h n = not_passed _
        (λ y. n (sym (child_is b h c (and_both (is_child b h c) (counted_at k b s h c) y).0).2 ∙ sym eg))

    module _ (t u : List ℕ) (held : Holds k b s m t) where
      pub counts : counted_at k b s g c ≡ true → u ≡ set t g (get_or t g 0 + 1) → Holds k b s (m + 1) u
      unfolding part counted_child
      counts y e = tally_one (turn k b s) 128 m t u held g parent_small
          (rw (← ec) (and_of (is_child b g c) (counted_at k b s g c) child y)) (λ h n. rw (← ec) (other_parent h n)) e

      pub passes : counted_at k b s g c ≡ false → u ≡ t → Holds k b s (m + 1) u
      unfolding part counted_child
      passes y e = tally_none (turn k b s) 128 m t u held
          (λ h q. rw (← ec)
          (by_cases (ℕ_discrete h g)
          (λ (z : h ≡ g). rw z (not_passed (is_child b g c && counted_at k b s g c)
          (λ x. true≢false (sym (and_both (is_child b g c) (counted_at k b s g c) x).1 ∙ y))))
          (λ z. other_parent h z))) e

-- two tests that differ
unequal : (x y : Bool) → not (beq x y) ≡ same_b x (not y)
unfolding same_b
unequal true true = refl
unequal true false = refl
unequal false true = refl
unequal false false = refl

-- the test of a counted child, by what is counted
module _ (k : Tally) (b s : List ℕ) (g c : ℕ) where
  pub at_begun : k ≡ Begun → begun_b (plan_of b) (status_in b s) c ≡ counted_at k b s g c
  unfolding counted_at
  at_begun e = rw e

  pub at_ends : k ≡ Ends → not (beq (is_kind b g 1) (complete_b (plan_of b) (status_in b s) c)) ≡ counted_at k b s g c
  unfolding counted_at
  at_ends e = rw e (unequal (is_kind b g 1) (complete_b (plan_of b) (status_in b s) c))
