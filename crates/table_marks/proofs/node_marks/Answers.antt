-- `node_marks` meets its contract. Assumes nothing.
use mathlib.Core.Path.{refl}
use Rattle.base.proofs.Zeros.{zeros}
use Rattle.tables.specs.Sizes.{NODES, STARTS}
use Rattle.table_marks.proofs.node_marks.Goals as goal

pub returns : goal.returns
returns c = c.marks_and_children.ensures.all_orders refl

pub marks_and_children-requires : goal.marks_and_children-requires
marks_and_children-requires c = (c.requires.0, c.requires.1, zeros STARTS, zeros NODES)
