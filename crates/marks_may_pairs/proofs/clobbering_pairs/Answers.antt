-- `clobbering_pairs` meets its contract. Assumes nothing.
use native.Mathlib.Omega.{arith}
use Rattle.marks_may_pairs.proofs.Again.{at_first, found_more, all_found, fewer}
use Rattle.marks_may_pairs.proofs.clobbering_pairs.Goals as goal

pub loop-next-init : goal.loop-next-init
loop-next-init c = at_first _ _ _ _ _ c.requires.rises

pub loop-next-smaller : goal.loop-next-smaller
loop-next-smaller c = fewer c.loop-next.left _ c.in-Some.ensures.among (omega arith) (omega arith) (omega arith)
    (omega arith) c.in-Some.ensures.some

pub loop-next-preserved : goal.loop-next-preserved
loop-next-preserved c = found_more _ _ _ _ _ c.loop-next.invariant c.in-Some.ensures

pub returns : goal.returns
returns c = all_found _ _ _ _ _ c.loop-next.invariant c.in_default.ensures
