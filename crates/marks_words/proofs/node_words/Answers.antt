-- `node_words` meets its contract. Assumes nothing.
use Rattle.marks_words.proofs.node_words.Goals as goal

pub returns : goal.returns
returns c = λ p w t l. c.mark_words.ensures p w l (c.node_rows.ensures.right p w t _ l)
