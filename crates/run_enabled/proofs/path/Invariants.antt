-- `run_enabled::path` meets its contract. Assumes nothing.
use Prim.Native.Nat.{◌<◌}
use Rattle.plan_format.specs.Format.{node_count}
use Rattle.plan_check.specs.Meaning.{plan_of}
use Rattle.runs.specs.Plan.{Under}
use Rattle.run_enabled.proofs.Marks.{Marked}
use Rattle.run_enabled.proofs.path.Given as goal

abbrev pub invariant-loop-n : goal.invariant-loop-n
invariant-loop-n l = Under (plan_of l.plan) l.n l.node × ((l.n < node_count l.plan) × Marked l.plan l.node l.n l.marks)

abbrev pub decreases-loop-n : goal.decreases-loop-n
decreases-loop-n l = l.n
