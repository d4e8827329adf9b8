-- `draw_all` meets its contract: the draws before the index are made. Assumes nothing.
use Rattle.plan_draws.proofs.Fields.{DrewTo}
use Rattle.plan_draws.proofs.draw_all.Given as goal

abbrev pub invariant-loop-draw : goal.invariant-loop-draw
invariant-loop-draw l = DrewTo l.seed l.draws l.state l.draw-index
