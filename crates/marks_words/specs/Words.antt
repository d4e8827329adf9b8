-- The eight marks of a node as sixteen words, one for each sign and mark; bit f of a word speaks of flag f. Definitions
-- only.
use Rattle.std.specs.Prelude.{◌≡◌, Bool, true, List, [], ◌∷◌, ℕ, ◌+◌, ◌*◌, ◌<◌, get_or}
use Rattle.base.specs.Words.{Says}
use Rattle.runs.specs.Plan.{Plan, Node, sign_number}
use Rattle.runs.specs.WellFormed.{WellFormed}
use Rattle.runs.specs.Summary.{Mark, byte_of, Marked}
use Rattle.runs.specs.Model.Verdicts.{Fails}
use Rattle.marks_row.specs.Columns as columns
use Rattle.marks_row.specs.Columns.{first_word, Right}

-- the word of a sign and a mark
abbrev pub word_index : Bool → Mark → ℕ
word_index v m = byte_of m + 8 * sign_number v

-- the first word, in a node's row, of the column of each mark; must precondition and must postcondition have no column
abbrev pub first_words : List ℕ
first_words = first_word columns.may_pre ∷ 0 ∷ first_word columns.may_post ∷ 0 ∷ first_word columns.may_inc ∷ first_word
    columns.must_inc ∷ first_word columns.may_clobber ∷ first_word columns.must_clobber ∷ []

-- sixteen words say the marks of n
pub record MarkWords (p : Plan) (n : ℕ) (words : List ℕ) : Type 0 where
  pub says : (v : Bool) (m : Mark) (f : ℕ) → f < 64 → Says (get_or words (word_index v m) 0) f (Marked p n f v m)

-- a word says which flags are set at the start
pub record StartWord (F : ℕ → Bool) (w : ℕ) : Type 0 where
  pub says : (f : ℕ) → f < 64 → Says w f (F f ≡ true)

-- for every plan in which the row of n is right: word k of the sixteen; all of them
abbrev pub WordIs : List ℕ → ℕ → ℕ → ℕ → Type 0
WordIs rows n k r = (p : Plan) → WellFormed p → Node p n → Right p rows n → (v : Bool) (m : Mark) → k ≡ word_index v m
    → (f : ℕ) → f < 64
    → Says r f (Marked p n f v m)

abbrev pub WordsAre : List ℕ → ℕ → List ℕ → Type 0
WordsAre rows n r = (p : Plan) → WellFormed p → Node p n → Right p rows n → MarkWords p n r

-- for every plan whose root has the words: the flags with a literal that has the mark m, or is false at the start and
-- has the mark k
abbrev pub FailsWord : List ℕ → ℕ → ℕ → ℕ → ℕ → Type 0
FailsWord words start i j r = (p : Plan) (F : ℕ → Bool) → MarkWords p 0 words → StartWord F start → (m k : Mark)
    → i ≡ byte_of m → j ≡ byte_of k
    → (f : ℕ) → f < 64 → Says r f ((v : Bool) × Fails p F m k f v)
