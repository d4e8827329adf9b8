-- The bytes of a summary, and all that the call leaves, as functions that compute. Definitions only.
use Rattle.std.specs.Prelude.{cond, List, ℕ, ◌*◌, ◌/◌, ◌%◌, eqb}
use Rattle.base.specs.Answers.{overlay}
use Rattle.plan_format.specs.Format.{flag_count}
use Rattle.plan_check.specs.Meaning.{plan_of}
use Rattle.runs.specs.Searches.{listed}
use Rattle.runs.specs.Numbers.{mark_at}
use Rattle.runs.specs.Model.Blocked.{marked_under_b}

-- the mark of byte i: entry i / 8 is 2 f + sign, and its eight bytes are the marks
unfoldable pub summary_byte : List ℕ → List ℕ → ℕ → ℕ → ℕ
summary_byte b xs n i =
    cond (marked_under_b (plan_of b) (listed xs) n (i / 8 / 2) (eqb (i / 8 % 2) 1) (mark_at (i % 8))) 1 0

-- the bytes after a call that returned r: accepted, the 2 V entries and then what was there; refused, all that was
-- there
unfoldable pub summary_left : List ℕ → List ℕ → ℕ → ℕ → List ℕ → List ℕ
summary_left b xs n r out = cond (eqb r 0) (overlay (summary_byte b xs n) (16 * flag_count b) out) out
