-- `mask_words` meets its contract. Assumes nothing.
use Rattle.marks_row.proofs.Rows.{row_of_lem}
use Rattle.marks_group.specs.Masks.{mask_of}
use Rattle.marks_group.proofs.mask_words.Goals as goal

pub returns : goal.returns
returns c = row_of_lem (mask_of _)
