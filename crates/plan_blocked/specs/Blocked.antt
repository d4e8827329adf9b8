-- A plan's bytes with a list of blocked nodes (02: struck nodes): refusals 28 and 29, and the plan that is left.
-- Definitions only.
use Rattle.std.specs.Prelude.{List, ℕ}
use Rattle.base.specs.Answers.{first}
use Rattle.plan_rules.specs.Rules.{refusal}
use Rattle.plan_check.specs.Meaning.{plan_of}
use Rattle.runs.specs.Searches.{listed}
use Rattle.runs.specs.Plan.{Plan}
use Rattle.runs.specs.Model.Blocked.{without, blocked_refusal}

-- what is left of the plan without the blocked nodes of a list
abbrev pub plan_under : List ℕ → List ℕ → Plan
plan_under b xs = without (plan_of b) (listed xs)

-- 1 to 14, then 28 ("checked after 14"), then 29 ("checked after 28")
unfoldable pub refusal_under : List ℕ → List ℕ → ℕ
refusal_under b xs = first (refusal b) (blocked_refusal (plan_of b) xs)
