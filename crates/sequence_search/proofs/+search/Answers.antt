-- `search` meets its contract: those before place i are dead ends. Assumes nothing.
use mathlib.Core.Path.{ap}
use Prim.Native.Nat.{◌*◌, ◌^◌, ◌%◌}
use native.Mathlib.Omega.{arith}
use lib.Bits.{bit_or}
use Rattle.base.proofs.Bits.{one_shl}
use Rattle.sequence_search.proofs.Places.{place_small}
use Rattle.sequence_search.proofs.Turns.{both_wide, finds_all, finds_none, finds_more, dead_more, refused_dead}
use Rattle.sequence_search.proofs.Turns.{empty_dead}
use Rattle.sequence_search.proofs.+search.Goals as goal
use Rattle.sequence_search.proofs.+search.Goals.{then-may_follow+in_default, else-may_follow}

pub returns-then-reach-eq0 : goal.returns-then-reach-eq0
returns-then-reach-eq0 t c = finds_all _ _ _ _ _ c.if-reach-eq0.true

pub returns-in-Some : goal.returns-in-Some
returns-in-Some t c =
    let words = both_wide c.args.reach (omega arith) (omega arith) in
    let own = one_shl c.loop-i.i (omega (arith, (place_small c.requires c.loop-i-test.true).0)) in
    finds_more _ _ _ _ _ c.requires c.loop-i-test.true words c.from-child.ensures own
    c.may_follow.ensures c.if-may_follow.true c.moved_on-next.ensures c.search.ensures
    c.if-reach-eq0.false c.loop-i.invariant c.in-Some.is
    (ap (bit_or ((c.in-Some.rest * 2 ^ 8) % 2 ^ 64)) c.from.ensures)

pub loop-i-preserved : goal.loop-i-preserved
loop-i-preserved t c =
    let words = both_wide c.args.reach (omega arith) (omega arith) in
    let own = one_shl c.loop-i.i (omega (arith, (place_small c.requires c.loop-i-test.true).0)) in
    dead_more _ _ _ _ _ c.requires c.loop-i-test.true words c.loop-i.invariant
    (elim c.if-may_follow.branch [
      | then-may_follow+in_default w ↦
          empty_dead _ _ _ _ _ c.requires c.loop-i-test.true words c.from-child.ensures own
          c.may_follow.ensures w.if-may_follow.true w.moved_on-next.ensures w.search.ensures w.in_default.is
      | else-may_follow w ↦
          refused_dead _ _ _ _ _ c.requires c.loop-i-test.true words c.from-child.ensures own
          c.may_follow.ensures w.if-may_follow.false
    ])

pub returns : goal.returns
returns t c = finds_none _ _ _ _ _ c.if-reach-eq0.false c.loop-i-test.false c.loop-i.invariant
