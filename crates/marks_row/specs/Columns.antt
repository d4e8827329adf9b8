-- Rows of words: a word for each column to a node; bit f of a word speaks of flag f. Definitions only.
use Rattle.std.specs.Prelude.{◌≡◌, Bool, false, List, ℕ, ◌+◌, ◌*◌, ◌<◌, length, get_or}
use Rattle.std.proofs.Math.Option.{none}
use Rattle.base.specs.Words.{Says}
use Rattle.tables.specs.Sizes.{NODES}
use Rattle.runs.specs.Plan.{pre, inc, post, Plan, sign_number}
use Rattle.runs.specs.Execution.{last_asserted}
use Rattle.runs.specs.Summary.{May, Must, ExternalPre, ExternalPost, Incondition, MayClobber, MustClobber}
use Rattle.runs.specs.Pairs.{TaskWith}
use Rattle.runs.specs.Classes.{Neutral, Covers, MayQuiet, MayMeet}

-- Each but the first is for a sign. `requires`: some task has the literal as pre- or incondition; `asserts`: as in- or
-- postcondition; `posts`: as postcondition. The last two are the ones that an any-of group has where every branch has
-- them; it has the others where some branch does.
pub data Column : Type 0 where
  avoid : Column
  quiet covered may_pre may_post may_inc requires asserts posts may_clobber must_inc must_clobber : Bool → Column

-- the columns of a row, and the words of all rows
abbrev pub COLUMNS : ℕ
COLUMNS = 23

abbrev pub ROWS : ℕ
ROWS = NODES * COLUMNS

abbrev pub index_of : Column → ℕ
index_of avoid = 0
index_of (quiet v) = 1 + sign_number v
index_of (covered v) = 3 + sign_number v
index_of (may_pre v) = 5 + sign_number v
index_of (may_post v) = 7 + sign_number v
index_of (may_inc v) = 9 + sign_number v
index_of (requires v) = 11 + sign_number v
index_of (asserts v) = 13 + sign_number v
index_of (posts v) = 15 + sign_number v
index_of (may_clobber v) = 17 + sign_number v
index_of (must_inc v) = 19 + sign_number v
index_of (must_clobber v) = 21 + sign_number v

-- the first word of a column that has one for each sign
abbrev pub first_word : (Bool → Column) → ℕ
first_word k = index_of (k false)

-- what a column says of node n and flag f. (Must precondition is 'neither quiet nor covered', must postcondition
-- 'neither avoid nor may post of the opposite': the theory's must-pre-is and must-post-is.)
abbrev pub Fact : Plan → ℕ → ℕ → Column → Type 0
Fact p n f avoid = May p n (λ h. last_asserted p h f ≡ none)
Fact p n f (quiet v) = MayQuiet p (Neutral p f v) n
Fact p n f (covered v) = MayMeet p (Neutral p f v) (Covers p f v) n
Fact p n f (may_pre v) = May p n (ExternalPre p f v)
Fact p n f (may_post v) = May p n (ExternalPost p f v)
Fact p n f (may_inc v) = May p n (Incondition p f v)
Fact p n f (requires v) = TaskWith p pre inc f v n
Fact p n f (asserts v) = TaskWith p inc post f v n
Fact p n f (posts v) = TaskWith p post post f v n
Fact p n f (may_clobber v) = MayClobber p f v n
Fact p n f (must_inc v) = Must p n (Incondition p f v)
Fact p n f (must_clobber v) = MustClobber p f v n

-- word k of the row of node n; its word in a column
abbrev pub word_at : List ℕ → ℕ → ℕ → ℕ
word_at rows n k = get_or rows (n * COLUMNS + k) 0

abbrev pub word_in : List ℕ → ℕ → Column → ℕ
word_in rows n k = word_at rows n (index_of k)

-- the row of n says the facts of n
pub record Right (p : Plan) (rows : List ℕ) (n : ℕ) : Type 0 where
  pub says : (k : Column) (f : ℕ) → f < 64 → Says (word_in rows n k) f (Fact p n f k)

-- the words of a row say the facts of n
pub record Row (p : Plan) (n : ℕ) (w : List ℕ) : Type 0 where
  pub says : (k : Column) (f : ℕ) → f < 64 → Says (get_or w (index_of k) 0) f (Fact p n f k)

-- r has the word w k in each column k
pub record RowIs (w : Column → ℕ) (r : List ℕ) : Type 0 where
  pub is : (k : Column) → get_or r (index_of k) 0 ≡ w k

-- rows' is rows with the words w in the row of n
pub record RowWritten (rows rows' : List ℕ) (n : ℕ) (w : List ℕ) : Type 0 where
  pub long : length rows' ≡ ROWS
  pub here : (k : ℕ) → k < COLUMNS → word_at rows' n k ≡ get_or w k 0
  pub there : (c k : ℕ) → k < COLUMNS → (c ≡ n → ⊥) → word_at rows' c k ≡ word_at rows c k
