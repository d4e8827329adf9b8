-- The text of the listing, computed. Definitions only.
use Rattle.std.specs.Prelude.{ℕ, List, ◌++◌}
use Rattle.plan_check.specs.Meaning.{plan_of, start_of}
use Rattle.runs.specs.Model.Verdicts.{verdict}
use Rattle.wait_lengths.specs.Waits.{length_of, longest_wait}
use Rattle.text_order.specs.Model.{ranking}
use Rattle.text_lines.specs.Model.{ending, lines_of}
use Rattle.text_listing.specs.Text.{letters}

-- first line: answer, space, root's length
unfoldable pub first_line : List ℕ → List ℕ
first_line b = letters (verdict (plan_of b) (start_of b)) ++ ending (length_of b 0)

-- then each task with its longest wait, in order
unfoldable pub text_of : List ℕ → List ℕ
text_of b = first_line b ++ lines_of b (longest_wait b) (ranking b)
