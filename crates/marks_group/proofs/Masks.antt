-- What each column of a child is masked by. Assumes nothing.
use mathlib.Core.Path.{refl}
use mathlib.Core.Bool.{true, false}
use Prim.Native.Nat.{ℕ, ◌<◌}
use Rattle.base.specs.Words.{Says}
use Rattle.base.proofs.Says.{says_all}
use Rattle.runs.specs.Plan.{Plan, Child}
use Rattle.marks_row.specs.Columns.{Column, avoid, quiet, covered, may_pre, may_post, may_inc, requires, asserts}
use Rattle.marks_row.specs.Columns.{posts, may_clobber, must_inc, must_clobber}
use Rattle.marks_siblings.specs.declared.Siblings.{Siblings}
use Rattle.marks_siblings.specs.Siblings.{SiblingWords}
use Rattle.marks_group.specs.Groups.{Others}
use Rattle.marks_group.specs.Masks.{mask_of}

-- what a child's columns are masked by
pub masked : {p : Plan} {n c : ℕ} {s : Siblings} → SiblingWords p c (λ Q. (b : ℕ) → Child p n b → Q b) s
    → (k : Column) (f : ℕ) → f < 64 → Says (mask_of s k) f (Others p n c f k)
masked h avoid f l = says_all l refl tt
masked h (quiet v) f l = says_all l refl tt
masked h (covered false) f l = h.clear_before f l
masked h (covered true) f l = h.set_before f l
masked h (may_pre v) f l = h.avoid_before f l
masked h (may_post v) f l = h.avoid_after f l
masked h (may_inc v) f l = says_all l refl tt
masked h (requires v) f l = says_all l refl tt
masked h (asserts v) f l = says_all l refl tt
masked h (posts v) f l = says_all l refl tt
masked h (may_clobber v) f l = says_all l refl tt
masked h (must_inc v) f l = says_all l refl tt
masked h (must_clobber v) f l = h.silent_apart f l
