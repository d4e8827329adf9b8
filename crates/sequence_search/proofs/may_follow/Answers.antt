-- `may_follow` meets its contract. Assumes nothing.
use Rattle.sequence_search.proofs.may_follow.Goals as goal

pub returns : goal.returns
returns c = rw (c.word_at.ensures, c.word_at-2.ensures)
