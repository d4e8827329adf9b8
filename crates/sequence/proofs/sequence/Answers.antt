-- `sequence` meets its contract. Assumes nothing.
use mathlib.Core.Path.{sym}
use Rattle.std.proofs.lemmas.Result.{err_from_is_err_and}
use Rattle.sequence.proofs.Answers.{answered_refused, answered}
use Rattle.sequence.proofs.sequence.Goals as goal

pub returns-in_err-check : goal.returns-in_err-check
returns-in_err-check c =
    let p = err_from_is_err_and c.from_residual.result c.from_residual.ensures.1 in
    rw (p.1, p.2) (answered_refused _ c.in_err-check.ensures)

pub first_sequence-requires : goal.first_sequence-requires
first_sequence-requires c = sym c.in_ok-check.ensures

pub returns : goal.returns
returns c = answered _ (sym c.in_ok-check.ensures) c.first_sequence.ensures
