-- `before_mask` meets its contract: the mask of the places below j. Assumes nothing.
use Rattle.sequence.proofs.Masks.{MaskTo}
use Rattle.sequence.proofs.before_mask.Given as goal

abbrev pub invariant-loop-j : goal.invariant-loop-j
invariant-loop-j l = MaskTo l.order l.kids l.segment l.i l.j l.mask
