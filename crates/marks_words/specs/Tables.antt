-- The marks of a node, as words, of every plan that tables represent. Definitions only.
use Rattle.std.specs.Prelude.{List, ℕ}
use Rattle.runs.specs.Plan.{Plan, Node}
use Rattle.runs.specs.WellFormed.{WellFormed}
use Rattle.tables.specs.Represents.{Represents}
use Rattle.marks_words.specs.Words.{MarkWords}

abbrev pub NodeWords : List ℕ → List ℕ → List ℕ → List ℕ → List ℕ → ℕ → ℕ → List ℕ → Type 0
NodeWords kind from kids order conds n node words = (p : Plan) → WellFormed p
    → Represents kind from kids order conds n p → Node p node → MarkWords p node words
