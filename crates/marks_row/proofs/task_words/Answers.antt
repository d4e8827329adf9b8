-- `task_words` meets its contract, by the law of a task's row. Assumes nothing.
use mathlib.Core.Path.{refl}
use Rattle.marks_row.proofs.TaskWords.{task_row}
use Rattle.marks_row.proofs.task_words.Goals as goal

pub returns : goal.returns
returns c = λ p t. task_row t _ _ c.condition_word.ensures c.condition_word-2.ensures
    c.condition_word.type_inv c.condition_word-2.type_inv _ _
    (c.words_of_sign-clear.ensures p t _ refl) (c.words_of_sign-set.ensures p t _ refl)
