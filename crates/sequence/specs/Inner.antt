-- Inner contracts: the words that a search is given, and what is answered before the bytes are asked for their plan.
-- Definitions only.
use Rattle.std.specs.Prelude.{◌≡◌, ◌↔◌, Bool, true, List, ℕ, ◌≤◌, ◌<◌, T, get_or}
use Rattle.base.specs.Bits.{bit}
use Rattle.base.specs.Words.{Says}
use Rattle.runs.specs.Plan.{all_of, Plan, Child}
use Rattle.runs.specs.WellFormed.{WellFormed}
use Rattle.plan_check.specs.Meaning.{plan_of, start_of}
use Rattle.tables.specs.declared.Segment.{Segment}
use Rattle.tables.specs.Segments.{Position}
use Rattle.tables.specs.Represents.{before_code, code, RepresentsOrder}
use Rattle.marks_row.specs.Columns.{may_clobber, word_in, Right}
use Rattle.marks_words.specs.Words.{StartWord}
use Rattle.sequences.specs.Sequences.{Sought}
use Rattle.sequence_search.specs.Search.{count, child_at, RootChildren}
use Rattle.sequence.specs.Sequence.{Finding, found_in, Exact}

-- the bits of a mask are the places of the children whose code says that they stand before the one at place i
pub record MaskOf (order kids : List ℕ) (s : Segment) (i mask : ℕ) : Type 0 where
  pub says : (j : ℕ) → Says mask j ((j < count s) × (code order (child_at kids s j) (child_at kids s i) ≡ before_code))

pub record MasksOf (order kids : List ℕ) (s : Segment) (masks : List ℕ) : Type 0 where
  pub each : (i : ℕ) → i < count s → MaskOf order kids s i (get_or masks i 0)

-- no child has a flag in its words of may clobber
pub record CalmIn (rows kids : List ℕ) (s : Segment) (r : Bool) : Type 0 where
  pub tells : (r ≡ true) ↔ ((i : ℕ) → Position s i → (v : Bool) (f : ℕ) → f < 64
      → ¬ T (bit (word_in rows (get_or kids i 0) (may_clobber v)) f))

-- a plan with an all_of root that the tables represent below it
pub record Below (p : Plan) (kids : List ℕ) (s : Segment) (order rows : List ℕ) : Type 0 where
  pub well_formed : WellFormed p
  pub root_all_of : p.tree.kind 0 ≡ all_of
  pub flags : p.conditions.flags ≤ 64
  pub root : RootChildren p kids s
  pub orders : RepresentsOrder order p
  pub right : (c : ℕ) → Child p 0 c → Right p rows c

-- what is sought, and as a word that has nothing else
pub record Answers (p : Plan) (F : ℕ → Bool) (r : Finding) : Type 0 where
  pub sought : Sought p F (found_in r)
  pub exact : Exact r

-- of every such plan, whatever flags a word says to be set at the start; of an accepted plan
abbrev pub AnswersFrom : List ℕ → Segment → List ℕ → List ℕ → ℕ → Finding → Type 0
AnswersFrom kids s order rows start r =
    (p : Plan) (F : ℕ → Bool) → Below p kids s order rows → StartWord F start → Answers p F r

abbrev pub AnswersOf : List ℕ → Finding → Type 0
AnswersOf b r = Answers (plan_of b) (start_of b) r
