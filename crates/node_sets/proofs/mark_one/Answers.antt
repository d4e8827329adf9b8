-- `node_sets::mark_one` meets its contract. Assumes nothing.
use Rattle.base.proofs.Zeros.{zeros}
use Rattle.tables.specs.Sizes.{NODES}
use Rattle.node_sets.proofs.Sets.{marked_only}
use Rattle.node_sets.proofs.mark_one.Goals as goal

pub returns : goal.returns
returns c = marked_only _ _ (zeros NODES) c.requires
