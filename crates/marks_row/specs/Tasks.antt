-- The words of a task. Definitions only.
use Rattle.std.specs.Prelude.{◌≡◌, Bool, List, ℕ, ◌<◌}
use Rattle.base.specs.Words.{Says}
use Rattle.runs.specs.Plan.{task, Plan, Node}
use Rattle.runs.specs.WellFormed.{WellFormed}
use Rattle.marks_row.specs.declared.SignWords.{SignWords}
use Rattle.tables.specs.Represents.{RepresentsConditions}
use Rattle.marks_row.specs.Columns.{quiet, covered, may_pre, may_post, may_inc, requires, asserts, Fact}

-- what is known of a task whose words are worked out
pub record AtTask (conds : List ℕ) (n : ℕ) (p : Plan) : Type 0 where
  pub well_formed : WellFormed p
  pub conditions : RepresentsConditions conds p
  pub node : Node p n
  pub is_task : p.tree.kind n ≡ task

-- the words of the task n for one sign
pub record WordsOfSign (p : Plan) (n : ℕ) (v : Bool) (r : SignWords) : Type 0 where
  pub quiet : (f : ℕ) → f < 64 → Says r.quiet f (Fact p n f (quiet v))
  pub covered : (f : ℕ) → f < 64 → Says r.covered f (Fact p n f (covered v))
  pub pre : (f : ℕ) → f < 64 → Says r.pre f (Fact p n f (may_pre v))
  pub post : (f : ℕ) → f < 64 → Says r.post f (Fact p n f (may_post v))
  pub inc : (f : ℕ) → f < 64 → Says r.inc f (Fact p n f (may_inc v))
  pub pre_or_inc : (f : ℕ) → f < 64 → Says r.pre_or_inc f (Fact p n f (requires v))
  pub inc_or_post : (f : ℕ) → f < 64 → Says r.inc_or_post f (Fact p n f (asserts v))
