-- The ends of the chain of causes: what the parts of `check` work out.
use Rattle.std.specs.Prelude.{ℕ, cond, List}
use Rattle.plan_rules.specs.Rules.{cause4, cause5, cause6, cause7, cause8, cause9, cause10, cause11, cause12, cause13}
use Rattle.plan_rules.specs.Rules.{cause14}

-- from cause 13 on
unfoldable pub from_orders : List ℕ → ℕ
from_orders b = cond (cause13 b) 13 (cond (cause14 b) 14 0)

-- from cause 9 on
unfoldable pub from_conditions : List ℕ → ℕ
from_conditions b = cond (cause9 b) 9 (cond (cause10 b) 10 (cond (cause11 b) 11 (cond (cause12 b) 12 (from_orders b))))

-- from cause 4 on
unfoldable pub from_nodes : List ℕ → ℕ
from_nodes b = cond (cause4 b) 4
    (cond (cause5 b) 5 (cond (cause6 b) 6 (cond (cause7 b) 7 (cond (cause8 b) 8 (from_conditions b)))))
