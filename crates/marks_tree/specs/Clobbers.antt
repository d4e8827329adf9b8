-- What the pairs of children add to the words of an all_of group. Definitions only.
use Rattle.std.specs.Prelude.{◌≡◌, ◌⊎◌, Bool, List, ℕ, ◌<◌, get_or}
use Rattle.std.specs.Int.Bits.{bit_or}
use Rattle.base.specs.Words.{Says}
use Rattle.runs.specs.Plan.{all_of, Plan}
use Rattle.tables.specs.declared.Segment.{Segment}
use Rattle.marks_row.specs.Columns.{Column, avoid, quiet, covered, may_pre, may_post, may_inc, requires, asserts}
use Rattle.marks_row.specs.Columns.{posts, may_clobber, must_inc, must_clobber, Row, COLUMNS}
use Rattle.marks_group.specs.Groups.{Within, WithinRow}
use Rattle.marks_pair.specs.declared.Literals.{Literals}
use Rattle.marks_between.specs.Passing.{SomePair, OfGroups}
use Rattle.marks_pair.specs.Pairs.{Opposite, Pair, sign_word}
use Rattle.marks_must_pairs.specs.MustPairs.{MustPair}

-- for every plan and all_of group n of which the segment has the children: the row of n
abbrev pub AllOfRow : List ℕ → Segment → List ℕ → List ℕ → List ℕ → Type 0
AllOfRow kids segment order rows r = OfGroups kids segment order rows (λ p n. p.tree.kind n ≡ all_of → Row p n r)

-- for every all_of group n of which the words say what it shows by its children one by one: the literals that some task
-- under n requires and some task asserts the opposite of, or that are left both ways, and that no child may clobber
abbrev pub OpenLiterals : List ℕ → Literals → Type 0
OpenLiterals words r = (p : Plan) (n : ℕ) → WithinRow p n words → (v : Bool) (f : ℕ) → f < 64
    → Says (sign_word r v) f (Opposite p f v n n × (¬ Within p n f (may_clobber v)))

-- may clobber: where no child has it, some pair; must clobber: a child has it, or some pair
abbrev pub Extra : Plan → ℕ → ℕ → Column → Type 0
Extra p n f avoid = ⊥
Extra p n f (quiet v) = ⊥
Extra p n f (covered v) = ⊥
Extra p n f (may_pre v) = ⊥
Extra p n f (may_post v) = ⊥
Extra p n f (may_inc v) = ⊥
Extra p n f (requires v) = ⊥
Extra p n f (asserts v) = ⊥
Extra p n f (posts v) = ⊥
Extra p n f (may_clobber v) = (¬ Within p n f (may_clobber v)) × SomePair p n (Pair p n f v)
Extra p n f (must_inc v) = ⊥
Extra p n f (must_clobber v) = Within p n f (must_clobber v) ⊎ SomePair p n (MustPair p n f v)

-- the words of the two columns
abbrev pub clobber_of : Literals → Literals → Column → ℕ
clobber_of may must avoid = 0
clobber_of may must (quiet v) = 0
clobber_of may must (covered v) = 0
clobber_of may must (may_pre v) = 0
clobber_of may must (may_post v) = 0
clobber_of may must (may_inc v) = 0
clobber_of may must (requires v) = 0
clobber_of may must (asserts v) = 0
clobber_of may must (posts v) = 0
clobber_of may must (may_clobber v) = sign_word may v
clobber_of may must (must_inc v) = 0
clobber_of may must (must_clobber v) = sign_word must v

-- word by word
pub record Ored (a b r : List ℕ) : Type 0 where
  pub is : (k : ℕ) → k < COLUMNS → get_or r k 0 ≡ bit_or (get_or a k 0) (get_or b k 0)
