-- Must precondition and must postcondition of a node, as words from its row. Definitions only.
use Rattle.std.specs.Prelude.{◌≡◌, Bool, List, ℕ, ◌<◌}
use Rattle.base.specs.Words.{Says}
use Rattle.runs.specs.Plan.{Plan, Node, sign_number}
use Rattle.runs.specs.WellFormed.{WellFormed}
use Rattle.runs.specs.Summary.{Must, ExternalPre, ExternalPost}
use Rattle.marks_row.specs.Columns.{Right}

-- for each flag and the sign of the number s, the word r says A
abbrev pub SaysOf : ℕ → ℕ → (ℕ → Bool → Type 0) → Type 0
SaysOf s r A = (v : Bool) → s ≡ sign_number v → (f : ℕ) → f < 64 → Says r f (A f v)

-- for every plan in which the row of n is right
abbrev pub MustPreWord : List ℕ → ℕ → ℕ → ℕ → Type 0
MustPreWord rows n s r = (p : Plan) → WellFormed p → Node p n → Right p rows n
    → SaysOf s r (λ f v. Must p n (ExternalPre p f v))

abbrev pub MustPostWord : List ℕ → ℕ → ℕ → ℕ → Type 0
MustPostWord rows n s r = (p : Plan) → WellFormed p → Right p rows n → SaysOf s r (λ f v. Must p n (ExternalPost p f v))
