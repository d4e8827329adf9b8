-- `check_summary` meets its contract. Assumes nothing.
use mathlib.Core.Path.{◌≡◌, refl, sym, ◌∙◌}
use native.Mathlib.Omega.{arith}
use Rattle.std.proofs.lemmas.Result.{err_from_is_err_and}
use Rattle.answers.proofs.Refusals.{some_number}
use Rattle.plan_blocked.specs.Blocked.{refusal_under}
use Rattle.plan_blocked.proofs.Refused.{plan_accepted}
use Rattle.plan_check.proofs.Accepted.{Clean, clean}
use Rattle.summary.proofs.Bytes.{refused_plan, refused_15, refused_17, refused_none}
use Rattle.summary.proofs.check_summary.Goals as goal
use Rattle.summary.proofs.check_summary.Goals.{In_ok-check_blocked}

passed : (c : In_ok-check_blocked) → let a = c.args in refusal_under a.plan.now a.blocked.now ≡ 0
passed c = sym c.in_ok-check_blocked.ensures.returns

whole : (c : In_ok-check_blocked) → Clean c.args.plan.now
whole c = clean _ (plan_accepted _ _ (passed c))

pub check_blocked-requires : goal.check_blocked-requires
check_blocked-requires c = c.requires

pub returns-in_err-check_blocked : goal.returns-in_err-check_blocked
returns-in_err-check_blocked c =
    let p = err_from_is_err_and c.from_residual.result c.from_residual.ensures.1 in
    let e = c.in_err-check_blocked.ensures.returns in
    rw (p.1, p.2) (record {
      returns = e ∙ refused_plan _ _ _ _ (λ z. some_number _ (e ∙ z));
      stands = λ z. absurd (some_number _ z);
    })

pub flags-requires : goal.flags-requires
flags-requires c = (whole (goal.at.flags-requires c).In_ok-check_blocked).fits.limits.long

pub overflow_mul-flags : goal.overflow_mul-flags
overflow_mul-flags c =
    let w = whole (goal.at.overflow_mul-flags c).In_ok-check_blocked in
    omega (arith, c.flags.ensures, w.fits.limits.flags)

pub returns-then-out-flags : goal.returns-then-out-flags
returns-then-out-flags c =
    let p = passed (goal.at.returns-then-out-flags c).In_ok-check_blocked in
    record {
      returns = refused_15 _ _ _ _ p (omega (arith, c.if-out-flags.true, c.flags.ensures));
      stands = λ z. absurd (omega (arith, z));
    }

pub nodes-requires : goal.nodes-requires
nodes-requires c = (whole (goal.at.nodes-requires c).In_ok-check_blocked).fits.limits.long

pub returns-then-node-nodes : goal.returns-then-node-nodes
returns-then-node-nodes c =
    let p = passed (goal.at.returns-then-node-nodes c).In_ok-check_blocked in
    record {
      returns = refused_17 _ _ _ _ p (omega (arith, c.if-out-flags.false, c.flags.ensures))
          (omega (arith, c.if-node-nodes.true, c.nodes.ensures));
      stands = λ z. absurd (omega (arith, z));
    }

pub returns : goal.returns
returns c =
    let p = passed (goal.at.returns c).In_ok-check_blocked in
    record {
      returns = refused_none _ _ _ _ p (omega (arith, c.if-out-flags.false, c.flags.ensures))
          (omega (arith, c.if-node-nodes.false, c.nodes.ensures));
      stands = λ z. c.in_ok-check_blocked.ensures.standing refl;
    }
