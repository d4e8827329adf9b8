-- `node_sets::mark_all`: the nodes that were read are marked. Assumes nothing.
use mathlib.Core.Path.{◌≡◌}
use lib.ListN.{length, take}
use Rattle.runs.specs.Searches.{listed}
use Rattle.node_sets.specs.Sets.{marked}
use Rattle.node_sets.proofs.mark_all.Given as goal

abbrev pub invariant-loop-t : goal.invariant-loop-t
invariant-loop-t l = (length l.marks ≡ 128) × (marked l.marks ≡ listed (take l.t-index l.list))
