-- `before_masks` meets its contract: the masks of the places below i. Assumes nothing.
use Rattle.sequence.proofs.Masks.{MasksTo}
use Rattle.sequence.proofs.before_masks.Given as goal

abbrev pub invariant-loop-i : goal.invariant-loop-i
invariant-loop-i l = MasksTo l.order l.kids l.segment l.i l.masks
