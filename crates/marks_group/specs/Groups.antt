-- The words of a group from the rows of its children. Definitions only.
use Rattle.std.specs.Prelude.{◌≡◌, ◌⊎◌, List, ℕ, ◌≤◌, ◌<◌, get_or}
use Rattle.std.specs.Int.Bits.{bit_and, bit_or}
use Rattle.base.specs.Words.{ones, Says}
use Rattle.runs.specs.Plan.{all_of, Picks, Plan, Child, Before, Unordered}
use Rattle.runs.specs.Numbers.{kind_number}
use Rattle.runs.specs.Summary.{MayClobber, Silent, MustClobber}
use Rattle.tables.specs.declared.Segment.{Segment}
use Rattle.tables.specs.Represents.{RepresentsOrder}
use Rattle.marks_row.specs.Columns.{Column, avoid, quiet, covered, may_pre, may_post, may_inc, requires, asserts}
use Rattle.marks_row.specs.Columns.{posts, may_clobber, must_inc, must_clobber}
use Rattle.marks_row.specs.Columns.{index_of, Fact, word_at, Row, COLUMNS}
use Rattle.tables.specs.Segments.{Every, Some}
use Rattle.marks_siblings.specs.Group.{Group}

module _ (p : Plan) (n c f : ℕ) where
  -- what the siblings of the child c of the all_of group n must allow, so that a fact of c is one of n
  abbrev pub Others : Column → Type 0
  Others avoid = Unit {0}
  Others (quiet v) = Unit {0}
  Others (covered v) = (b : ℕ) → Child p n b → Before p b c → Fact p b f (quiet v)
  Others (may_pre v) = (b : ℕ) → Child p n b → Before p b c → Fact p b f avoid
  Others (may_post v) = (b : ℕ) → Child p n b → Before p c b → Fact p b f avoid
  Others (may_inc v) = Unit {0}
  Others (requires v) = Unit {0}
  Others (asserts v) = Unit {0}
  Others (posts v) = Unit {0}
  Others (may_clobber v) = Unit {0}
  Others (must_inc v) = Unit {0}
  Others (must_clobber v) = (b : ℕ) → Child p n b → Unordered p b c → Silent p f b

-- what an all_of group shows by its children one by one: its facts, but for the pairs of children that clobber
abbrev pub Within : Plan → ℕ → ℕ → Column → Type 0
Within p n f avoid = Fact p n f avoid
Within p n f (quiet v) = Fact p n f (quiet v)
Within p n f (covered v) = Fact p n f (covered v)
Within p n f (may_pre v) = Fact p n f (may_pre v)
Within p n f (may_post v) = Fact p n f (may_post v)
Within p n f (may_inc v) = Fact p n f (may_inc v)
Within p n f (requires v) = Fact p n f (requires v)
Within p n f (asserts v) = Fact p n f (asserts v)
Within p n f (posts v) = Fact p n f (posts v)
Within p n f (may_clobber v) = (c : ℕ) × Child p n c × MayClobber p f v c
Within p n f (must_inc v) = Fact p n f (must_inc v)
Within p n f (must_clobber v) = (c : ℕ) × Child p n c × (MustClobber p f v c × Others p n c f (must_clobber v))

-- the words of a row say what the all_of group n shows by its children one by one
pub record WithinRow (p : Plan) (n : ℕ) (w : List ℕ) : Type 0 where
  pub says : (k : Column) (f : ℕ) → f < 64 → Says (get_or w (index_of k) 0) f (Within p n f k)

-- for every plan and node n of which the segment has the children: the words of n, if one branch of it is taken (an
-- any-of or optional group) and its kind has the number k; of the all_of group n, by its children one by one
abbrev pub AnyRow : ℕ → List ℕ → Segment → List ℕ → List ℕ → Type 0
AnyRow k kids segment rows r = (p : Plan) (n : ℕ) → Group kids segment rows p n → Picks (p.tree.kind n)
    → k ≡ kind_number (p.tree.kind n) → Row p n r

abbrev pub AllRow : List ℕ → Segment → List ℕ → List ℕ → List ℕ → Type 0
AllRow kids segment order rows r = (p : Plan) (n : ℕ) → Group kids segment rows p n → RepresentsOrder order p
    → p.tree.kind n ≡ all_of → WithinRow p n r

-- r is the word x and that of a child, y, in column k: from first to last both, in the others one or, under the mask,
-- the other
pub record JoinedWord (first last k x y mask r : ℕ) : Type 0 where
  pub every : first ≤ k → k < last → r ≡ bit_and x y
  pub some : (k < first) ⊎ (last ≤ k) → r ≡ bit_or x (bit_and y mask)

-- the words r are the words a and those of a child
pub record Merged (first last : ℕ) (a rows : List ℕ) (child : ℕ) (mask r : List ℕ) : Type 0 where
  pub words : (k : ℕ) → k < COLUMNS
      → JoinedWord first last k (get_or a k 0) (word_at rows child k) (get_or mask k 0) (get_or r k 0)

-- the words before the first child
pub record Unmerged (first last : ℕ) (r : List ℕ) : Type 0 where
  pub every : (k : ℕ) → k < COLUMNS → first ≤ k → k < last → get_or r k 0 ≡ ones
  pub some : (k : ℕ) → k < COLUMNS → (k < first) ⊎ (last ≤ k) → get_or r k 0 ≡ 0

-- the words r say of the children at the positions from low to high: in the columns from first to last that every one
-- has P, in the others that some one has P and M
pub record Joined (first last : ℕ) (kids : List ℕ) (low high : ℕ) (P M : Column → ℕ → ℕ → Type 0)
    (r : List ℕ) : Type 0 where
  pub every : (k : Column) → first ≤ index_of k → index_of k < last → (f : ℕ) → f < 64
      → Says (get_or r (index_of k) 0) f (Every kids low high (P k f))
  pub some : (k : Column) → (index_of k < first) ⊎ (last ≤ index_of k) → (f : ℕ) → f < 64
      → Says (get_or r (index_of k) 0) f (Some kids low high (λ c. P k f c × M k f c))
