-- `must_pair_word` meets its contract: a case for each place where it returns. Assumes nothing.
use Rattle.marks_between.proofs.Passed.{passing_kid}
use Rattle.marks_between.proofs.Pair.{pair_kid}
use Rattle.marks_must_pairs.proofs.Pairs.{none_shared, shared_passes, not_before}
use Rattle.marks_must_pairs.proofs.must_pair_word.Goals as goal

pub returns-then-shared-eq0 : goal.returns-then-shared-eq0
returns-then-shared-eq0 c = pair_kid c.from-d.ensures
    (none_shared _ _ _ c.if-order-c.true c.must_post.ensures
    c.must_pre.ensures c.if-shared-eq0.true)

pub returns-else-shared-eq0 : goal.returns-else-shared-eq0
returns-else-shared-eq0 c = let e = c.from-d.ensures in
    pair_kid e (shared_passes _ _ _ c.if-order-c.true
    c.must_post.ensures c.must_pre.ensures
    (passing_kid e c.passing.ensures))

pub returns-else-order-c : goal.returns-else-order-c
returns-else-order-c c = pair_kid c.from-d.ensures (not_before _ c.if-order-c.false)
