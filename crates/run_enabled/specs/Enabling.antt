-- The tests of a single node and a single order behind refusals 19 and 20.
use Rattle.std.specs.Prelude.{ℕ, Bool, not, ◌&&◌, ◌||◌, List, get_or, eqb, ltb}
use Rattle.plan_format.specs.Format.{is_kind, earlier_of, later_of}
use Rattle.plan_check.specs.Meaning.{plan_of}
use Rattle.runs.specs.Model.Monitor.{complete_b, begun_b}
use Rattle.run_starts.specs.Starts.{node_byte}
use Rattle.run_state.specs.State.{status_in}
use Rattle.base.specs.Count.{num}
use Rattle.run_progress.specs.Progress.{children_counted}
use Rattle.run_progress.specs.declared.Tally.TheVariants.{Begun}

-- group g is no all-of group, and it is skipped or has more begun branches than n alone
unfoldable pub rival_at : List ℕ → List ℕ → ℕ → ℕ → Bool
rival_at b s g n = not (is_kind b g 1)
    && (eqb (node_byte s g) 2 || ltb (num (begun_b (plan_of b) (status_in b s) n)) (children_counted Begun b s g))

-- the later node of order j is marked, and its earlier node is not complete
unfoldable pub open_at : List ℕ → List ℕ → List ℕ → ℕ → Bool
open_at b s marks j = eqb (get_or marks (later_of b j) 0) 1
    && not (complete_b (plan_of b) (status_in b s) (earlier_of b j))
