-- The facts of an all_of group by those of its children. Assumes nothing.
use mathlib.Core.Path.{◌≡◌}
use mathlib.Core.Logic.{◌≢◌, ◌↔◌}
use Prim.Native.Nat.{ℕ, ◌<◌, ◌≤◌}
use native.Mathlib.Omega.{arith}
use Rattle.runs.specs.Plan.{task, all_of, pre, inc, post, Plan, Node, Child}
use Rattle.runs.specs.WellFormed.{WellFormed}
use Rattle.runs.proofs.Reflect.{clash}
use Rattle.runs.proofs.Plan.Chains.{before_child}
use Rattle.runs.specs.Classes.{Neutral, Covers}
use Rattle.runs.proofs.Summary.Quiet.{quiet_all}
use Rattle.runs.proofs.Summary.Meet.{meet_all}
use Rattle.runs.proofs.Summary.ByChildren.{avoids_all, may_pre_all, may_post_all, may_inc_all, must_inc_all}
use Rattle.marks_row.specs.Columns.{Column, avoid, quiet, covered, may_pre, may_post, may_inc, requires, asserts}
use Rattle.marks_row.specs.Columns.{posts, may_clobber, must_inc, must_clobber}
use Rattle.marks_row.specs.Columns.{index_of, first_word, Fact}
use Rattle.marks_group.specs.Groups.{Others, Within}
use Rattle.runs.proofs.Plan.Numbers.{sign_small}
use Rattle.marks_group.proofs.Any.{with_child}

module _ (p : Plan) (w : WellFormed p) {n : ℕ} (l : Node p n) (k : p.tree.kind n ≡ all_of) (f : ℕ) where
  group_all : p.tree.kind n ≢ task
  group_all e = clash cc

  pub every_part : (c : Column) → index_of c < first_word covered → Within p n f c
      ↔ ((b : ℕ) → Child p n b → Fact p b f c)
  every_part avoid s = avoids_all p w f k
  every_part (quiet v) s = quiet_all p w (Neutral p f v) k
  every_part (covered v) s = absurd (omega arith)
  every_part (may_pre v) s = absurd (omega arith)
  every_part (may_post v) s = absurd (omega arith)
  every_part (may_inc v) s = absurd (omega arith)
  every_part (requires v) s = absurd (omega arith)
  every_part (asserts v) s = absurd (omega arith)
  every_part (posts v) s = absurd (omega arith)
  every_part (may_clobber v) s = absurd (omega arith)
  every_part (must_inc v) s = absurd (omega arith)
  every_part (must_clobber v) s = absurd (omega arith)

  -- a rule that says nothing of the siblings
  alone : {A : Type 0} {P : ℕ → Type 0} → A ↔ ((c : ℕ) × Child p n c × P c)
      → A ↔ ((c : ℕ) × Child p n c × (P c × Unit {0}))
  alone e = (λ a. let x = e.0 a in (x.0, x.1, (x.2, tt)), λ x. e.1 (x.0, x.1, x.2.0))

  pub some_part : (c : Column) → first_word covered ≤ index_of c
      → Within p n f c ↔ ((b : ℕ) × Child p n b × (Fact p b f c × Others p n b f c))
  some_part avoid s = absurd (omega arith)
  some_part (quiet v) s = absurd (omega (arith, sign_small v))
  some_part (covered v) s = let e = meet_all p w (Neutral p f v) (Covers p f v) k in (
    λ a. let x = e.0 a in (x.0, x.1, (x.2, λ b hb q. x.3 b q)),
    λ x. e.1 (x.0, x.1, x.2.0, λ b q. x.2.1 b (before_child p w x.1 q) q),
  )
  some_part (may_pre v) s = let e = may_pre_all p w f v l k in (
    λ a. let x = e.0 a in (x.0, x.1, (x.2, λ b hb q. x.3 b q)),
    λ x. e.1 (x.0, x.1, x.2.0, λ b q. x.2.1 b (before_child p w x.1 q) q),
  )
  some_part (may_post v) s = let e = may_post_all p w f v k in (
    λ a. let x = e.0 a in (x.0, x.1, (x.2, x.3)),
    λ x. e.1 (x.0, x.1, x.2.0, x.2.1),
  )
  some_part (may_inc v) s = alone (may_inc_all p w f v l k)
  some_part (requires v) s = alone (with_child p w group_all pre inc f v)
  some_part (asserts v) s = alone (with_child p w group_all inc post f v)
  some_part (posts v) s = alone (with_child p w group_all post post f v)
  some_part (may_clobber v) s = (λ x. (x.0, x.1, (x.2, tt)), λ x. (x.0, x.1, x.2.0))
  some_part (must_inc v) s = alone (must_inc_all p w f v k)
  some_part (must_clobber v) s = (λ x. x, λ x. x)
