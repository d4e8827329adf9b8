-- `begin_refused` meets its contract. Assumes nothing.
use mathlib.Core.Path.{◌≡◌, ◌∙◌}
use Rattle.run_refusals.specs.declared.Move.TheVariants.{Start, Finish}
use Rattle.run_refusals.proofs.Moves.{begin_start, begin_finish}
use Rattle.run_refusals.proofs.begin_refused.Goals as goal

pub returns-in-Start : goal.returns-in-Start
returns-in-Start c =
    let e : c.args.m ≡ Start = cc in
    c.start_refused.ensures ∙ begin_start _ _ _ _ _ e

pub returns-in-Finish : goal.returns-in-Finish
returns-in-Finish c =
    let e : c.args.m ≡ Finish = cc in
    begin_finish _ _ _ _ _ e
