-- `words_of_sign` meets its contract, by the law of a task's words. Assumes nothing.
use Rattle.marks_row.proofs.TaskWords.{sign_says}
use Rattle.marks_row.proofs.words_of_sign.Goals as goal

pub returns : goal.returns
returns c = λ p t v e. sign_says t _ _ c.condition_word.ensures c.condition_word-2.ensures
    c.condition_word.type_inv c.condition_word-2.type_inv v _ _ _ _ c.condition_word-pre.type_inv e
    c.condition_word-pre.ensures c.condition_word-inc.ensures c.condition_word-post.ensures
