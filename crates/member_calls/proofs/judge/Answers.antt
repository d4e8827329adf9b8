-- `judge` meets its contract. Assumes nothing.
use Rattle.plan_check.proofs.Accepted.{clean}
use Rattle.member_calls.proofs.Judging.{of_list}
use Rattle.member_calls.proofs.judge.Goals as goal

pub marks_among-words-requires : goal.marks_among-words-requires
marks_among-words-requires c = let p = c.requires in (p.0, (clean _ p.0).fits.limits.some_node)

pub returns : goal.returns
returns c =
    of_list _ _ c.of_words.result c.requires.0 c.requires.2 c.mark_members-standing.ensures
    c.marks_among-words.ensures c.start_word-start.ensures c.of_words.ensures
