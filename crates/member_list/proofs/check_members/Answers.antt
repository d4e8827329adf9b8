-- `check_members` meets its contract. Assumes nothing.
use mathlib.Core.Path.{sym, ◌∙◌}
use native.Mathlib.Omega.{arith}
use Rattle.std.proofs.lemmas.Result.{err_from_is_err_and}
use Rattle.answers.proofs.Refusals.{some_number}
use Rattle.plan_check.proofs.Accepted.{clean}
use Rattle.member_list.proofs.Bytes.{plan_refused, list_short, list_bad, list_right}
use Rattle.member_list.proofs.check_members.Goals as goal

pub returns-in_err-check : goal.returns-in_err-check
returns-in_err-check c =
    let p = err_from_is_err_and c.from_residual.result c.from_residual.ensures.1 in
    rw (p.1, p.2) (plan_refused _ _ c.in_err-check.ensures (some_number _))

-- from here on the plan has passed
pub nodes-requires : goal.nodes-requires
nodes-requires c = (clean _ (sym c.in_ok-check.ensures)).fits.limits.long

pub returns-then-members-nodes : goal.returns-then-members-nodes
returns-then-members-nodes c = list_short _ _ (sym c.in_ok-check.ensures) (omega (arith, c.nodes.ensures))

pub list_bad-requires : goal.list_bad-requires
list_bad-requires c = (sym c.in_ok-check.ensures, omega (arith, c.nodes.ensures))

pub returns-then-list_bad : goal.returns-then-list_bad
returns-then-list_bad c =
    list_bad _ _ (sym c.in_ok-check.ensures) (omega (arith, c.nodes.ensures))
    (sym c.list_bad.ensures ∙ c.if-list_bad.true)

pub returns : goal.returns
returns c =
    list_right _ _ (sym c.in_ok-check.ensures) (omega (arith, c.nodes.ensures))
    (sym c.list_bad.ensures ∙ c.if-list_bad.false)
