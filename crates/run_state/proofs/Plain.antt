-- Plans without optional groups (no node of kind 3), those of 01: what the tests of their bytes and of their states say
-- is what 01 says. Assumes nothing.
use mathlib.Core.Path.{◌≡◌, sym, ap, ◌∙◌}
use mathlib.Core.Logic.{by_cases}
use mathlib.Core.Bool.{false, cond, not, ◌&&◌, ◌||◌, or-false}
use mathlib.Core.List.{List}
use Prim.Native.Nat.{ℕ, ◌<◌, ◌≤◌}
use native.Mathlib.Decide.{dec_lt}
use native.Mathlib.Omega.{arith}
use lib.Dec.{eqb, ltb}
use borrow.Author.Tests.{lt-ltb, le-ltb}
use Rattle.plan_format.specs.Format.{node_count, kind_of, minutes_of, is_kind, is_group, is_choice}
use Rattle.plan_rules.specs.Rules.{bad_entry}
use Rattle.plan_check.specs.Meaning.{plan_of}
use Rattle.plan_check.proofs.Meaning.{kind_number_lem}
use Rattle.plan_check.proofs.Nodes.{node_is, plan_kind, other_kind}
use Rattle.runs.specs.Numbers.{kind_number}
use Rattle.runs.specs.Execution.{waiting}
use Rattle.runs.proofs.Plain.{Plain}
use Rattle.run_starts.specs.Starts.{node_byte}
use Rattle.run_state.specs.State.{bad_byte, status_at, moves, status_in}

module _ (b : List ℕ) (plain : (n : ℕ) → is_kind b n 3 ≡ false) where
  -- rule 6, and the groups of rules 6, 7 and 8
  pub plain_group : (n : ℕ) → is_group b n ≡ (is_kind b n 1 || is_kind b n 2)
  unfolding is_group
  plain_group n = rw (plain n) (or-false (is_kind b n 1 || is_kind b n 2))

  pub plain_choice : (n : ℕ) → is_choice b n ≡ is_kind b n 2
  unfolding is_choice
  plain_choice n = rw (plain n) (or-false (is_kind b n 2))

  over_two : (k : ℕ) → (k ≡ 3 → ⊥) → ltb 3 k ≡ ltb 2 k
  over_two k h = by_cases (dec_lt 2 k) (λ (l : 2 < k). rw (lt-ltb 2 k l, lt-ltb 3 k (omega arith)))
      (λ l. rw (le-ltb 2 k (omega arith), le-ltb 3 k (omega arith)))

  pub plain_entry : (n : ℕ) → n < node_count b → bad_entry b n
      ≡ ((ltb 2 (kind_of b n) || ((is_kind b n 1 || is_kind b n 2) && ltb 0 (minutes_of b n)))
      || (is_kind b n 0 && ltb 10080 (minutes_of b n)))
  unfolding bad_entry
  plain_entry n l = rw (plain_group n, over_two (kind_of b n) (other_kind b n 3 l (plain n)))

  -- 16, and the status that a byte shows
  pub plain_byte : (s : List ℕ) (n : ℕ) → bad_byte b s n
      ≡ cond (is_kind b n 0) (ltb 2 (node_byte s n)) (not (eqb (node_byte s n) 0))
  unfolding bad_byte
  plain_byte s n = rw (plain n)

  pub plain_status : (s : List ℕ) (n : ℕ) → status_in b s n ≡ cond (is_kind b n 0) (status_at (node_byte s n)) waiting
  unfolding status_in moves
  plain_status s n = rw (plain n, or-false (is_kind b n 0))

  -- the plan that they mean has no optional group, so that the laws of `runs` on such plans apply
  pub plain_plan : ((n : ℕ) → n < node_count b → kind_of b n ≤ 3) → Plain (plan_of b)
  plain_plan limit n l k =
      let m = node_is b n l in
      other_kind b n 3 m (plain n) (sym (kind_number_lem (kind_of b n) (limit n m)) ∙ ap kind_number
      (sym (plan_kind b n) ∙ k))
