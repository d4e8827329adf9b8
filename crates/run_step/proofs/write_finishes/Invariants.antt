-- `write_finishes`: the tasks that were read are done. Assumes nothing.
use mathlib.Core.Path.{◌≡◌}
use mathlib.Core.List.{◌++◌}
use lib.ListN.{length, take, drop}
use Rattle.run_step.proofs.Finishes.{all_done_of}
use Rattle.run_step.proofs.write_finishes.Given as goal

abbrev pub invariant-loop-t : goal.invariant-loop-t
invariant-loop-t l = (length l.state ≡ length l.initial.state)
    × (take 8 l.initial.state ++ all_done_of (take l.t-index l.tasks) (drop 8 l.initial.state) ≡ l.state)
