-- What each column of a child of an all-of group is masked by. Definitions only.
use Rattle.std.specs.Prelude.{true, false, ℕ}
use Rattle.base.specs.Words.{ones}
use Rattle.marks_row.specs.Columns.{Column, avoid, quiet, covered, may_pre, may_post, may_inc, requires, asserts}
use Rattle.marks_row.specs.Columns.{posts, may_clobber, must_inc, must_clobber}
use Rattle.marks_siblings.specs.declared.Siblings.{Siblings}

-- the word that a child's word of a column is masked by
abbrev pub mask_of : Siblings → Column → ℕ
mask_of s avoid = ones
mask_of s (quiet v) = ones
mask_of s (covered false) = s.clear_before
mask_of s (covered true) = s.set_before
mask_of s (may_pre v) = s.avoid_before
mask_of s (may_post v) = s.avoid_after
mask_of s (may_inc v) = ones
mask_of s (requires v) = ones
mask_of s (asserts v) = ones
mask_of s (posts v) = ones
mask_of s (may_clobber v) = ones
mask_of s (must_inc v) = ones
mask_of s (must_clobber v) = s.silent_apart
