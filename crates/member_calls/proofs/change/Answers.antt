-- `change` meets its contract. Assumes nothing.
use mathlib.Core.Path.{◌≡◌, sym, ap}
use lib.ListN.{set, length-set}
use Rattle.std.proofs.lemmas.Result.{err_from_is_err_and}
use Rattle.answers.proofs.Refusals.{some_number}
use Rattle.member_calls.specs.Model.{member_call_refusal}
use Rattle.member_calls.specs.Inner.{member_call}
use Rattle.member_calls.proofs.Ends.{in_list, none_to_16, root_all_of}
use Rattle.member_calls.proofs.Calls.{refused_call, accepted_call}
use Rattle.member_calls.proofs.change.Goals as goal
use Rattle.member_calls.proofs.change.Goals.{In_ok-check_call}

passed : (c : In_ok-check_call) → let a = c.args in
    member_call_refusal a.plan.now a.members.now (member_call a.node a.joins) ≡ 0
passed c = sym c.in_ok-check_call.ensures

pub judge-requires : goal.judge-requires
judge-requires c =
    let s = (goal.at.judge-requires c).In_ok-check_call in
    let p = none_to_16 _ _ _ (passed s) in
    (p.accepted, rw (length-set _ _ _) p.room, root_all_of _ _ _ (passed s))

pub returns : goal.returns
returns c = accepted_call _ _ _ (passed (goal.at.returns c).In_ok-check_call) (ap (set _ _) c.from.ensures)
    c.judge.ensures

pub returns-in_err-check_call : goal.returns-in_err-check_call
returns-in_err-check_call c =
    let p = err_from_is_err_and c.from_residual.result c.from_residual.ensures.1 in
    rw (p.1, p.2) (refused_call _ _ _ c.in_err-check_call.ensures (some_number _))

pub bounds-members-node : goal.bounds-members-node
bounds-members-node c = in_list _ _ _ (passed (goal.at.bounds-members-node c).In_ok-check_call)
