-- `assess` meets its contract. Assumes nothing.
use mathlib.Core.Path.{refl, sym}
use Rattle.std.proofs.lemmas.Result.{err_from_is_err_and}
use Rattle.plan_blocked.proofs.Refused.{plan_accepted, blocks}
use Rattle.verdict.proofs.Judging.{assessed_refused, assessed}
use Rattle.verdict.proofs.assess.Goals as goal

pub check_blocked-requires : goal.check_blocked-requires
check_blocked-requires c = c.all_nodes-standing.ensures

pub returns-in_err-check_blocked : goal.returns-in_err-check_blocked
returns-in_err-check_blocked c =
    let p = err_from_is_err_and c.from_residual.result c.from_residual.ensures.1 in
    rw (p.1, p.2) (assessed_refused _ _ c.in_err-check_blocked.ensures.returns)

pub judge-requires : goal.judge-requires
judge-requires c = plan_accepted _ _ (sym c.in_ok-check_blocked.ensures.returns)

pub returns : goal.returns
returns c =
    let e = c.in_ok-check_blocked.ensures in
    let p = sym e.returns in
    assessed _ _ c.judge.result p (c.judge.ensures _ (blocks _ _ p) (e.standing refl))
