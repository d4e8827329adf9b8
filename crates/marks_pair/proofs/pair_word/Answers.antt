-- `pair_word` meets its contract: a case for each place where it returns. Assumes nothing.
use Rattle.marks_between.proofs.Passed.{passing_kid}
use Rattle.marks_between.proofs.Pair.{pair_kid}
use Rattle.marks_pair.proofs.Pairs.{none_shared, shared_passes, apart_both, neither_rule}
use Rattle.marks_pair.proofs.pair_word.Goals as goal

pub returns-then-shared-eq0 : goal.returns-then-shared-eq0
returns-then-shared-eq0 c = pair_kid c.from-d.ensures
    (none_shared _ _ _ c.if-order-d.true c.word_at.ensures
    c.word_at-then-order-d.ensures c.if-shared-eq0.true)

pub returns-else-shared-eq0 : goal.returns-else-shared-eq0
returns-else-shared-eq0 c = let e = c.from-d.ensures in
    pair_kid e (shared_passes _ _ _ c.if-order-d.true
    c.word_at.ensures c.word_at-then-order-d.ensures
    (passing_kid e c.passing.ensures))

pub returns-then-apart : goal.returns-then-apart
returns-then-apart c =
    pair_kid c.from-d.ensures
    (apart_both _ _ _ _ _ (c.apart.ensures.0 (rw c.if-apart.true tt))
    c.word_at-then-apart.ensures c.word_at-then-apart-2.ensures
    c.word_at-then-apart-3.ensures c.word_at-then-apart-4.ensures)

pub returns-else-apart : goal.returns-else-apart
returns-else-apart c = pair_kid c.from-d.ensures
    (neither_rule _ c.if-order-d.false (λ u. rw c.if-apart.false at (c.apart.ensures.1 u)))
