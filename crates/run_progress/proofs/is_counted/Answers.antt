-- `run_progress::is_counted` meets its contract. Assumes nothing.
use mathlib.Core.Path.{◌≡◌, ◌∙◌}
use Rattle.run_progress.specs.declared.Tally.TheVariants.{Begun, Ends}
use Rattle.run_state.proofs.Passed.{has_room}
use Rattle.run_progress.proofs.Pass.{at_begun, at_ends}
use Rattle.run_progress.proofs.is_counted.Goals as goal

pub is_kind-requires : goal.is_kind-requires
is_kind-requires c = (has_room _ _ c.requires.1.0).plan.fits

pub returns-in-Begun : goal.returns-in-Begun
returns-in-Begun c =
    let e : c.args.tally ≡ Begun = cc in
    c.is_begun.ensures ∙ at_begun _ _ _ _ _ e

pub returns-in-Ends : goal.returns-in-Ends
returns-in-Ends c =
    let e : c.args.tally ≡ Ends = cc in
    rw (c.is_kind.ensures, c.is_complete.ensures) (at_ends _ _ _ _ _ e)
