-- `mark_word` meets its contract, for the marks that have a column. Assumes nothing.
use native.Mathlib.Omega.{arith}
use Rattle.marks_words.proofs.WordColumns.{sign_is, mark_is, column_says}
use Rattle.marks_words.proofs.mark_word.Goals as goal

pub returns-in_default : goal.returns-in_default
returns-in_default c =
    λ p w n r v m e f l.
    rw (c.word_at.ensures, c.column.ensures, sign_is v m e, mark_is v m e)
    (column_says r v m (λ q. absurd (omega (arith, mark_is v m e))) (λ q. absurd (omega (arith, mark_is v m e))) f l)
