-- `holders` meets its contract. Assumes nothing.
use Rattle.run_starts.proofs.Counts.{HeldTo}
use Rattle.run_starts.proofs.holders.Given as goal

abbrev pub invariant-loop-n : goal.invariant-loop-n
invariant-loop-n l = HeldTo l.plan l.state l.n l.table
