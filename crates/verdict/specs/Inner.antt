-- Inner contracts: what a verdict is worth before the bytes are asked for their plan. Definitions only.
use Rattle.std.specs.Prelude.{◌≡◌, Bool, List, ℕ, ◌≤◌}
use Rattle.plan_check.specs.Meaning.{plan_of, start_of}
use Rattle.plan_blocked.specs.Inner.{Standing}
use Rattle.runs.specs.Plan.{Plan}
use Rattle.runs.specs.WellFormed.{WellFormed}
use Rattle.runs.specs.Branches.{Blocks}
use Rattle.runs.specs.Model.Blocked.{without}
use Rattle.runs.specs.Model.Verdicts.{verdict}
use Rattle.marks_words.specs.Words.{MarkWords, StartWord}
use Rattle.verdict.specs.declared.Verdict.{Verdict}
use Rattle.verdict.specs.Verdict.{word_of}

-- the verdict of every well-formed plan of at most 64 flags whose root has these marks, whatever flags F a word says to
-- be set at the start
abbrev pub OfWords : List ℕ → ℕ → Verdict → Type 0
OfWords words start v = (p : Plan) (F : ℕ → Bool) → WellFormed p → p.conditions.flags ≤ 64 → MarkWords p 0 words
    → StartWord F start → word_of v ≡ verdict p F

-- the verdict of the plan that the bytes b mean, without the blocked nodes: of any blocked nodes S, if a table marks
-- the nodes that stand
abbrev pub OfStanding : List ℕ → List ℕ → Verdict → Type 0
OfStanding b standing v = (S : ℕ → Bool) → Blocks (plan_of b) S → Standing b S standing
    → word_of v ≡ verdict (without (plan_of b) S) (start_of b)
