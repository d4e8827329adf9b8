-- The nodes of the plan that bytes mean: their kinds and children, by the tests of the bytes. Assumes nothing.
use mathlib.Core.Path.{◌≡◌, refl, sym, ◌∙◌}
use mathlib.Core.Logic.{◌≢◌}
use mathlib.Core.Bool.{Bool, true, false, cond, true≢false}
use mathlib.Core.List.{List}
use Prim.Native.Nat.{ℕ, ◌<◌}
use lib.Dec.{eqb, ltb→lt, lt→ltb}
use borrow.Author.Tests.{eq-eqb, ne_eqb, lt-ltb}
use Rattle.plan_format.specs.Format.{node_count, parent_of, kind_of, is_kind}
use Rattle.plan_rules.specs.Rules.{is_child}
use Rattle.runs.specs.Plan.{any_of, optional, Picks, Child, Node}
use Rattle.plan_check.specs.Meaning.{kind_at, plan_of}
use Rattle.plan_check.proofs.Meaning.{kind_of_lem, child_is}

pub kind_any_of : (k : ℕ) → k ≡ 2 → kind_at k ≡ any_of
unfolding kind_at
kind_any_of k e = rw e

pub kind_optional : (k : ℕ) → k ≡ 3 → kind_at k ≡ optional
unfolding kind_at
kind_optional k e = rw e

-- the kinds of group of which one branch is taken
pub kind_choice : (k : ℕ) → k ≢ 0 → k ≢ 1 → Picks (kind_at k)
unfolding kind_at
kind_choice k z o = rw (ne_eqb k 0 z, ne_eqb k 1 o) (at (eqb k 2))
  where
    at : (x : Bool) → Picks (cond x any_of optional)
    at true = tt
    at false = tt

pub choice_kind : (k : ℕ) → Picks (kind_at k) → k ≢ 1
unfolding kind_at
choice_kind k x e = rw e at x

module _ (b : List ℕ) where
  pub is_child_lem : (g c : ℕ) → is_child b g c ≡ true → Child (plan_of b) g c
  unfolding plan_of
  is_child_lem g c h = let w = child_is b g c h in
      record { not_root = w.0; node = lt→ltb c (node_count b) w.1; up = w.2 }

  pub child_test : (g c : ℕ) → Child (plan_of b) g c → is_child b g c ≡ true
  unfolding plan_of is_child
  child_test g c h = simp (
    lt-ltb 0 c h.not_root,
    lt-ltb c (node_count b) (ltb→lt c (node_count b) h.node),
    eq-eqb (parent_of b c) g h.up,
  )

  pub is_node : (n : ℕ) → n < node_count b → Node (plan_of b) n
  unfolding plan_of
  is_node n l = lt→ltb n (node_count b) l

  pub node_is : (n : ℕ) → Node (plan_of b) n → n < node_count b
  unfolding plan_of
  node_is n h = ltb→lt n (node_count b) h

  pub plan_kind : (n : ℕ) → (plan_of b).tree.kind n ≡ kind_at (kind_of b n)
  unfolding plan_of
  plan_kind n = refl

  pub other_kind : (n k : ℕ) → n < node_count b → is_kind b n k ≡ false → kind_of b n ≡ k → ⊥
  other_kind n k l h e = true≢false (sym (kind_of_lem b n k l e) ∙ h)
