-- What the pass over the nodes counts: children that are begun; incomplete children of an all-of group, complete ones
-- of another.
use Rattle.std.specs.Prelude.{ℕ, ◌<◌, ◌≡◌, Bool, not, ◌&&◌, List, get_or}
use Rattle.plan_format.specs.Format.{node_count, is_kind}
use Rattle.plan_rules.specs.Rules.{is_child}
use Rattle.plan_check.specs.Meaning.{plan_of}
use Rattle.runs.specs.Tests.{same_b}
use Rattle.runs.specs.Model.Monitor.{complete_b, begun_b}
use Rattle.run_state.specs.State.{status_in}
use Rattle.base.specs.Count.{count_below}
use Rattle.run_progress.specs.declared.Tally.{Tally}
use Rattle.run_progress.specs.declared.Tally.TheVariants.{Begun, Ends}

unfoldable pub counted_at : Tally → List ℕ → List ℕ → ℕ → ℕ → Bool
counted_at Begun b s g c = begun_b (plan_of b) (status_in b s) c
counted_at Ends b s g c = same_b (is_kind b g 1) (not (complete_b (plan_of b) (status_in b s) c))

unfoldable pub counted_child : Tally → List ℕ → List ℕ → ℕ → ℕ → Bool
counted_child k b s g c = is_child b g c && counted_at k b s g c

unfoldable pub children_counted : Tally → List ℕ → List ℕ → ℕ → ℕ
children_counted k b s g = count_below (node_count b) (counted_child k b s g)

-- the table has the number of each node's counted children
abbrev pub Counted : Tally → List ℕ → List ℕ → List ℕ → Type 0
Counted k b s table = (g : ℕ) → g < 128 → get_or table g 0 ≡ children_counted k b s g
