-- `plan_blocked::check_blocked` meets its contract. Assumes nothing.
use mathlib.Core.Path.{sym}
use Rattle.std.proofs.lemmas.Result.{err_from_is_err_and}
use Rattle.answers.proofs.Refusals.{some_number}
use Rattle.plan_blocked.proofs.Refused.{plan_refused}
use Rattle.plan_blocked.proofs.check_blocked.Goals as goal

pub check_list-requires : goal.check_list-requires
check_list-requires c = (sym c.in_ok-check.ensures, c.requires)

pub returns : goal.returns
returns c = c.check_list.ensures

pub returns-in_err-check : goal.returns-in_err-check
returns-in_err-check c =
    let p = err_from_is_err_and c.from_residual.result c.from_residual.ensures.1 in
    rw (p.1, p.2) (plan_refused _ _ _ _ c.in_err-check.ensures (some_number _))
