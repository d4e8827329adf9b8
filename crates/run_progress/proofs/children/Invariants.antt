-- `run_progress::children` meets its contract. Assumes nothing.
use Prim.Native.Nat.{◌-◌, ◌≤◌}
use Rattle.plan_format.specs.Format.{node_count}
use Rattle.run_progress.proofs.Pass.{Holds}
use Rattle.run_progress.proofs.children.Given as goal

abbrev pub invariant-loop-c : goal.invariant-loop-c
invariant-loop-c l = (1 ≤ l.c) × Holds l.tally l.plan l.state (node_count l.plan - l.c) l.table
