-- `run_enabled::branch_begun` meets its contract. Assumes nothing.
use Prim.Native.Nat.{◌<◌}
use Rattle.plan_format.specs.Format.{node_count}
use Rattle.plan_check.specs.Meaning.{plan_of}
use Rattle.runs.specs.Plan.{Under}
use Rattle.runs.specs.Calls.{BranchBegun}
use Rattle.run_state.specs.State.{status_in}
use Rattle.run_enabled.proofs.branch_begun.Given as goal

abbrev pub invariant-loop-n : goal.invariant-loop-n
invariant-loop-n l = Under (plan_of l.plan) l.n l.node
    × ((l.n < node_count l.plan) × (BranchBegun (plan_of l.plan) (status_in l.plan l.state) l.node
    → BranchBegun (plan_of l.plan) (status_in l.plan l.state) l.n))

abbrev pub decreases-loop-n : goal.decreases-loop-n
decreases-loop-n l = l.n
