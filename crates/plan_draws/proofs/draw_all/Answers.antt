-- `draw_all` meets its contract: the draws before the index are made. Assumes nothing.
use Rattle.std.proofs.Common.{arith, refl}
use Rattle.plan_draws.proofs.Fields.{drew_none, drew_more}
use Rattle.plan_draws.proofs.draw_all.Goals as goal

pub loop-draw-init : goal.loop-draw-init
loop-draw-init c = drew_none _ c.requires

pub loop-draw-preserved : goal.loop-draw-preserved
loop-draw-preserved c = drew_more (omega (arith, c.loop-draw.invariant.long)) refl c.loop-draw.invariant
