-- `open_literals` meets its contract, by the law of its words. Assumes nothing.
use Rattle.marks_tree.proofs.Open.{open_says}
use Rattle.marks_tree.proofs.open_literals.Goals as goal

pub returns : goal.returns
returns c = open_says _
