-- `listing` meets its contract. Assumes nothing.
use mathlib.Core.Path.{sym}
use native.Mathlib.Omega.{arith}
use Rattle.std.proofs.lemmas.Result.{err_from_is_err_and}
use Rattle.listing.proofs.Answers.{lists_refused, lists_short, lists_text}
use Rattle.listing.proofs.listing.Goals as goal

pub returns-in_err-check : goal.returns-in_err-check
returns-in_err-check c =
    let p = err_from_is_err_and c.from_residual.result c.from_residual.ensures.1 in
    rw (p.1, p.2) (lists_refused _ _ _ c.in_err-check.ensures)

pub returns-then-out-lt2048 : goal.returns-then-out-lt2048
returns-then-out-lt2048 c = lists_short _ _ (sym c.in_ok-check.ensures) (omega (arith, c.if-out-lt2048.true))

pub write_listing-requires : goal.write_listing-requires
write_listing-requires c = (sym c.in_ok-check.ensures, omega (arith, c.if-out-lt2048.false))

pub returns : goal.returns
returns c = lists_text _ _ (sym c.in_ok-check.ensures) (omega (arith, c.if-out-lt2048.false)) c.write_listing.ensures
