-- `judge` meets its contract. Assumes nothing.
use Rattle.plan_check.proofs.Accepted.{clean}
use Rattle.verdict.proofs.Judging.{of_marks}
use Rattle.verdict.proofs.judge.Goals as goal

pub returns : goal.returns
returns c =
    of_marks c.of_words.result c.requires c.node_marks-words.ensures
    c.start_word-start.ensures c.of_words.ensures

pub node_marks-words-requires : goal.node_marks-words-requires
node_marks-words-requires c = (c.requires, (clean _ c.requires).fits.limits.some_node)
