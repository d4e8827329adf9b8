-- `with_empty` meets its contract. Assumes nothing.
use Rattle.marks_row.proofs.Rows.{row_of_lem}
use Rattle.marks_group.specs.Empty.{with_empty}
use Rattle.marks_group.proofs.with_empty.Goals as goal

pub returns : goal.returns
returns c = row_of_lem (with_empty _)
