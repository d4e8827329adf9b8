-- The chains of refusals as chains of tests: 17 to 22 of a start and of a finish; 27 and 18 to 20 of a skip; and their
-- parts, from 19 on. Assumes nothing.
use mathlib.Core.Path.{◌≡◌, refl, sym, ap, ◌∙◌}
use mathlib.Core.Bool.{Bool, true, false, cond}
use mathlib.Core.List.{List}
use Prim.Native.Nat.{ℕ}
use native.Mathlib.Omega.{arith}
use lib.ListN.{get_or}
use borrow.Author.Tests.{ne_eqb}
use mathlib.Core.Option.{none}
use Rattle.plan_check.specs.Meaning.{plan_of}
use Rattle.runs.specs.Execution.{start}
use Rattle.runs.specs.Calls.{no_task, wrong_status, branch_begun, order_open, pre_unmet, inc_broken, no_optional}
use Rattle.runs.specs.Model.Monitor.{or_else, refusal_number, branch_begun_b, order_open_b, pre_unmet_b}
use Rattle.runs.specs.Tests.{negate}
use Rattle.runs.specs.Searches.{either as or}
use Rattle.base.specs.Answers.{first}
use Rattle.base.proofs.First.{first_none, first_some}
use Rattle.run_state.specs.State.{status_in, flag_shown}
use Rattle.node_sets.specs.Sets.{marked}
use Rattle.run_refusals.specs.Parts.{tree_refusal, begin_refusal}

pub start_chain : (a b c d e f : Bool) →
    refusal_number (or_else a no_task (λ u. or_else b wrong_status
    (λ u. or_else c branch_begun (λ u. or_else d order_open
    (λ u. or_else e pre_unmet (λ u. or_else f inc_broken (λ u. none)))))))
    ≡ cond a 17 (cond b 18 (first (first (cond c 19 (cond d 20 0)) (cond e 21 0)) (cond f 22 0)))
start_chain true b c d e f = refl
start_chain false true c d e f = refl
start_chain false false true d e f = refl
start_chain false false false true e f = refl
start_chain false false false false true f = refl
start_chain false false false false false true = refl
start_chain false false false false false false = refl

pub finish_chain : (a b f : Bool) → refusal_number
    (or_else a no_task (λ u. or_else b wrong_status (λ u. or_else f inc_broken (λ u. none))))
    ≡ cond a 17 (cond b 18 (first 0 (cond f 22 0)))
finish_chain true b f = refl
finish_chain false true f = refl
finish_chain false false true = refl
finish_chain false false false = refl

pub skip_chain : (a b c d : Bool) → refusal_number
    (or_else a no_optional (λ u. or_else b wrong_status
    (λ u. or_else c branch_begun (λ u. or_else d order_open (λ u. none)))))
    ≡ cond a 27 (cond b 18 (cond c 19 (cond d 20 0)))
skip_chain true b c d = refl
skip_chain false true c d = refl
skip_chain false false true d = refl
skip_chain false false false true = refl
skip_chain false false false false = refl

-- 19 does not apply to a node only if it stands
pub tree_stands : (b s : List ℕ) (t : ℕ) (v : Bool) → tree_refusal b s t v ≡ 0 → v ≡ true
unfolding tree_refusal or negate
tree_stands b s t true z = refl
tree_stands b s t false z = absurd (omega (arith, z))

-- ---- the parts
module _ (b table s : List ℕ) (t : ℕ) where
  -- a node that does not stand
  pub tree_absent : (get_or table t 0 ≡ 1 → ⊥) → 19 ≡ tree_refusal b s t (marked table t)
  unfolding tree_refusal marked or negate
  tree_absent k = rw (ne_eqb (get_or table t 0) 1 k)

  -- one that stands
  pub tree_19 : get_or table t 0 ≡ 1 → branch_begun_b (plan_of b) (status_in b s) t ≡ true
      → 19 ≡ tree_refusal b s t (marked table t)
  unfolding tree_refusal marked or negate
  tree_19 e y = rw (e, y)

  pub tree_20 : get_or table t 0 ≡ 1 → branch_begun_b (plan_of b) (status_in b s) t ≡ false
      → order_open_b (plan_of b) (status_in b s) t ≡ true
      → 20 ≡ tree_refusal b s t (marked table t)
  unfolding tree_refusal marked or negate
  tree_20 e x y = rw (e, x, y)

  pub tree_none : get_or table t 0 ≡ 1 → branch_begun_b (plan_of b) (status_in b s) t ≡ false
      → order_open_b (plan_of b) (status_in b s) t ≡ false
      → 0 ≡ tree_refusal b s t (marked table t)
  unfolding tree_refusal marked or negate
  tree_none e x y = rw (e, x, y)

  pub begin_tree : (r : ℕ) → r ≡ tree_refusal b s t (marked table t) → (r ≡ 0 → ⊥)
      → r ≡ begin_refusal b s (start t) (marked table t)
  unfolding begin_refusal
  begin_tree r q n =
      q ∙ first_some (tree_refusal b s t (marked table t))
      (cond (pre_unmet_b (plan_of b) (flag_shown s) (start t)) 21 0)
      (λ z. n (q ∙ z))

  pub begin_unmet : tree_refusal b s t (marked table t) ≡ 0 → (z : Bool)
      → pre_unmet_b (plan_of b) (flag_shown s) (start t) ≡ z
      → cond z 21 0 ≡ begin_refusal b s (start t) (marked table t)
  unfolding begin_refusal
  begin_unmet q z d = ap (λ (x : Bool). cond x 21 0) (sym d)
      ∙ first_none (tree_refusal b s t (marked table t)) (cond (pre_unmet_b (plan_of b) (flag_shown s) (start t)) 21 0)
      q
