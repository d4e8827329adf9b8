-- Inner contracts: a table of the nodes that stand, and what a check of plan and list leaves. Definitions only.
use Rattle.std.specs.Prelude.{◌≡◌, Bool, List, ℕ, ◌<◌}
use Rattle.node_sets.specs.Sets.{marked}
use Rattle.plan_format.specs.Format.{node_count}
use Rattle.plan_check.specs.Meaning.{plan_of}
use Rattle.runs.specs.Searches.{listed}
use Rattle.runs.specs.Model.Blocked.{stands}
use Rattle.plan_blocked.specs.Blocked.{refusal_under}

-- a table marks, of the nodes, those that stand where the nodes in S are blocked
pub record Standing (b : List ℕ) (S : ℕ → Bool) (table : List ℕ) : Type 0 where
  pub is : (n : ℕ) → n < node_count b → marked table n ≡ stands (plan_of b) S n

-- what a check of plan and list leaves: the refusal, and the table once nothing is refused
pub record ListChecked (b xs : List ℕ) (r : ℕ) (table : List ℕ) : Type 0 where
  pub returns : r ≡ refusal_under b xs
  pub standing : r ≡ 0 → Standing b (listed xs) table
