-- `before_masks` meets its contract: the masks of the places below i. Assumes nothing.
use mathlib.Core.Path.{refl}
use Rattle.sequence_search.proofs.Places.{place_small}
use Rattle.sequence.proofs.Masks.{masks_none, masks_more, masks_whole}
use Rattle.sequence.proofs.before_masks.Goals as goal

pub loop-i-init : goal.loop-i-init
loop-i-init c = masks_none refl

pub loop-i-preserved : goal.loop-i-preserved
loop-i-preserved c =
    masks_more (place_small c.requires c.loop-i-test.true).0 c.loop-i.invariant c.before_mask.ensures

pub returns : goal.returns
returns c = masks_whole c.loop-i.auto.i-end c.loop-i-test.false c.loop-i.invariant
