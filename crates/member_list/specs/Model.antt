-- The refusal of a list of members, computed. Definitions only.
use Rattle.std.specs.Prelude.{Bool, cond, not, ◌&&◌, ◌||◌, List, ℕ, eqb, ltb, length, get_or}
use Rattle.base.specs.Answers.{first}
use Rattle.plan_format.specs.Format.{node_count}
use Rattle.plan_rules.specs.Rules.{refusal}
use Rattle.plan_check.specs.Meaning.{plan_of}
use Rattle.runs.specs.Searches.{any_below}
use Rattle.runs.specs.Model.Trees.{child_b}

-- a byte over 1, or a 1 at a node that is no child of the root
unfoldable pub bad_member : List ℕ → List ℕ → ℕ → Bool
bad_member b ms i = ltb 1 (get_or ms i 0) || (eqb (get_or ms i 0) 1 && not (child_b (plan_of b) 0 i))

-- 1 to 14, then 15, under N bytes, then 16
unfoldable pub members_refusal : List ℕ → List ℕ → ℕ
members_refusal b ms = first (refusal b)
    (cond (ltb (length ms) (node_count b)) 15 (cond (any_below (node_count b) (bad_member b ms)) 16 0))
