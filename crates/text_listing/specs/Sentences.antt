-- The listing in 01's words. Definitions only.
use Rattle.std.specs.Prelude.{ℕ, ◌≡◌, List, ◌∷◌, ◌++◌}
use Rattle.plan_check.specs.Meaning.{plan_of, start_of}
use Rattle.runs.specs.Verdict.{Verdict, Judged}
use Rattle.wait_lengths.specs.Sentences.{Times}
use Rattle.text_decimals.specs.Decimals.{Plain}
use Rattle.text_order.specs.Order.{Arranged}
use Rattle.text_lines.specs.Lines.{TaskLines}
use Rattle.text_listing.specs.Text.{letters}

-- s is the listing of an accepted plan
pub record IsListing (b s : List ℕ) : Type 0 where
  -- the answer for the book
  pub verdict : Verdict
  pub judged : Judged (plan_of b) (start_of b) verdict
  -- the lengths and waits of its nodes
  pub len : ℕ → ℕ
  pub wait : ℕ → ℕ
  pub longest : ℕ → ℕ
  pub times : Times b len wait longest
  -- all tasks, each once, longest wait first, ties by name in byte order, equal names by lower node
  pub tasks : List ℕ
  pub arranged : Arranged b longest tasks
  -- the root's length in digits, and the lines of the tasks
  pub digits : List ℕ
  pub plain : Plain (len 0) digits
  pub lines : List ℕ
  pub each : TaskLines b longest tasks lines
  -- first line: answer, space, root's length, byte 10; then each task
  pub text : s ≡ letters verdict ++ 32 ∷ digits ++ 10 ∷ lines
