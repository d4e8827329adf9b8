-- The words of an optional group from those of an any-of group with the same children. Definitions only.
use Rattle.std.specs.Prelude.{List, ℕ, get_or}
use Rattle.base.specs.Words.{ones}
use Rattle.marks_row.specs.Columns.{Column, avoid, quiet, covered, may_pre, may_post, may_inc, requires, asserts}
use Rattle.marks_row.specs.Columns.{posts, may_clobber, must_inc, must_clobber, index_of}

-- one branch more, which has no tasks: it asserts nothing and asks for nothing, and has no must
abbrev pub with_empty : List ℕ → Column → ℕ
with_empty w avoid = ones
with_empty w (quiet v) = ones
with_empty w (covered v) = get_or w (index_of (covered v)) 0
with_empty w (may_pre v) = get_or w (index_of (may_pre v)) 0
with_empty w (may_post v) = get_or w (index_of (may_post v)) 0
with_empty w (may_inc v) = get_or w (index_of (may_inc v)) 0
with_empty w (requires v) = get_or w (index_of (requires v)) 0
with_empty w (asserts v) = get_or w (index_of (asserts v)) 0
with_empty w (posts v) = get_or w (index_of (posts v)) 0
with_empty w (may_clobber v) = get_or w (index_of (may_clobber v)) 0
with_empty w (must_inc v) = 0
with_empty w (must_clobber v) = 0
