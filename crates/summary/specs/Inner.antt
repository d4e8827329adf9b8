-- Inner contracts: what the check of a summary call leaves, and the words that its bytes come from. Definitions only.
use Rattle.std.specs.Prelude.{◌≡◌, Bool, List, ℕ, ◌<◌, get_or}
use Rattle.base.specs.Words.{Says}
use Rattle.plan_check.specs.Meaning.{plan_of}
use Rattle.plan_blocked.specs.Inner.{Standing}
use Rattle.runs.specs.Searches.{listed}
use Rattle.runs.specs.Summary.{Mark}
use Rattle.runs.specs.Blocked.{MarkedUnder}
use Rattle.runs.specs.Branches.{Blocks}
use Rattle.marks_words.specs.Words.{word_index}
use Rattle.summary.specs.Summary.{summary_refusal}

-- what a check leaves: the refusal, and the table once nothing is refused
pub record Checked (b xs : List ℕ) (n : ℕ) (out : List ℕ) (r : ℕ) (standing : List ℕ) : Type 0 where
  pub returns : r ≡ summary_refusal b xs n out
  pub stands : r ≡ 0 → Standing b (listed xs) standing

-- sixteen words say the marks of n under blocked nodes: of any blocked nodes S, if a table marks the nodes that stand
pub record UnderWords (b standing : List ℕ) (n : ℕ) (words : List ℕ) : Type 0 where
  pub says : (S : ℕ → Bool) → Blocks (plan_of b) S → Standing b S standing → (v : Bool) (m : Mark) (f : ℕ) → f < 64
      → Says (get_or words (word_index v m) 0) f (MarkedUnder (plan_of b) S n f v m)
