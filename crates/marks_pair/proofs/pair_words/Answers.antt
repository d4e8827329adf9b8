-- `pair_words` meets its contract, sign by sign. Assumes nothing.
use Rattle.marks_pair.proofs.Pairs.{pair_words}
use Rattle.marks_pair.proofs.pair_words.Goals as goal

pub returns : goal.returns
returns c = pair_words c.pair_word-clear.ensures c.pair_word-set.ensures
