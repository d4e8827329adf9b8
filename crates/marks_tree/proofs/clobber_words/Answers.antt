-- `clobber_words` meets its contract. Assumes nothing.
use Rattle.marks_row.proofs.Rows.{row_of_lem}
use Rattle.marks_tree.specs.Clobbers.{clobber_of}
use Rattle.marks_tree.proofs.clobber_words.Goals as goal

pub returns : goal.returns
returns c = row_of_lem (clobber_of _ _)
