-- `before_mask` meets its contract: the mask of the places below j. Assumes nothing.
use mathlib.Core.Path.{ap, ◌∙◌}
use native.Mathlib.Omega.{arith}
use lib.Bits.{bit_or}
use Rattle.base.proofs.Bits.{one_shl}
use Rattle.sequence_search.proofs.Places.{place_small}
use Rattle.sequence.proofs.Masks.{mask_none, mask_set, mask_skip, mask_whole}
use Rattle.sequence.proofs.before_mask.Goals as goal
use Rattle.sequence.proofs.before_mask.Goals.{else-order-earlier, then-order-earlier}

pub loop-j-init : goal.loop-j-init
loop-j-init c = mask_none

pub loop-j-preserved : goal.loop-j-preserved
loop-j-preserved c =
    let own = one_shl c.loop-j.j (omega (arith, (place_small c.requires.0 c.loop-j-test.true).0)) in
    let to = c.loop-j.invariant in
    let e = c.from-earlier.ensures in
    let l = c.from-later.ensures in
    elim c.if-order-earlier.branch [
      | then-order-earlier w ↦
          mask_set to e l w.if-order-earlier.true (w.mask-is ∙ ap (bit_or c.loop-j.mask) own)
      | else-order-earlier w ↦ rw w.mask-is (mask_skip to e l w.if-order-earlier.false)
    ]

pub returns : goal.returns
returns c = mask_whole c.loop-j.auto.j-end c.loop-j-test.false c.loop-j.invariant
