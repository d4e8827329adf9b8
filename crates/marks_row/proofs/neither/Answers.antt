-- `neither` meets its contract. Assumes nothing.
use mathlib.Core.Path.{◌∙◌}
use Rattle.marks_row.proofs.Nots.{neither_is}
use Rattle.marks_row.proofs.neither.Goals as goal

pub returns : goal.returns
returns c = neither_is _ _ c.word_at-x.type_inv c.word_at-y.type_inv ∙ rw (c.word_at-x.ensures, c.word_at-y.ensures)
