-- `summary` meets its contract: the bytes below i are written. Assumes nothing.
use mathlib.Core.Path.{◌≡◌, refl, sym}
use Prim.Native.Nat.{◌*◌, ◌<◌}
use native.Mathlib.Omega.{arith}
use Rattle.std.proofs.lemmas.Result.{err_from_is_err_and}
use Rattle.answers.proofs.Refusals.{some_number}
use Rattle.base.proofs.Overlay.{overlay_none, overlay_more, length_overlay}
use Rattle.plan_format.specs.Format.{flag_count}
use Rattle.plan_check.proofs.Accepted.{Clean, clean}
use Rattle.plan_blocked.proofs.Refused.{plan_accepted}
use Rattle.summary.proofs.Bytes.{Accepted, accepted, byte_is, summary_refused, summary_written}
use Rattle.summary.proofs.summary.Goals as goal
use Rattle.summary.proofs.summary.Goals.{In_ok-check_summary}

passed : (c : In_ok-check_summary) → let a = c.args in Accepted a.plan.now a.blocked.now a.node a.out.now
passed c = accepted _ _ _ _ (sym c.in_ok-check_summary.ensures.returns)

whole : (c : In_ok-check_summary) → Clean c.args.plan.now
whole c = clean _ (plan_accepted _ _ (passed c).plan)

pub check_summary-requires : goal.check_summary-requires
check_summary-requires c = c.all_nodes-standing.ensures

pub returns-in_err-check_summary : goal.returns-in_err-check_summary
returns-in_err-check_summary c =
    let p = err_from_is_err_and c.from_residual.result c.from_residual.ensures.1 in
    rw (p.1, p.2) (summary_refused _ _ _ _ c.in_err-check_summary.ensures.returns (some_number _))

pub under_words-words-requires : goal.under_words-words-requires
under_words-words-requires c =
    let p = passed (goal.at.under_words-words-requires c).In_ok-check_summary in
    (plan_accepted _ _ p.plan, p.node)

pub flags-i-end-requires : goal.flags-i-end-requires
flags-i-end-requires c = (whole (goal.at.flags-i-end-requires c).In_ok-check_summary).fits.limits.long

pub overflow_mul-i-end : goal.overflow_mul-i-end
overflow_mul-i-end c =
    omega (arith, c.flags-i-end.ensures, (whole (goal.at.overflow_mul-i-end c).In_ok-check_summary).fits.limits.flags)

pub loop-i-init : goal.loop-i-init
loop-i-init c = overlay_none _ _

pub mark_byte-requires : goal.mark_byte-requires
mark_byte-requires c =
    omega (arith, c.flags-i-end.ensures, (whole (goal.at.mark_byte-requires c).In_ok-check_summary).fits.limits.flags)

pub bounds-out-i : goal.bounds-out-i
bounds-out-i c =
    rw (c.loop-i.invariant, length_overlay)
    (omega (arith, c.flags-i-end.ensures, (passed (goal.at.bounds-out-i c).In_ok-check_summary).room))

pub loop-i-preserved : goal.loop-i-preserved
loop-i-preserved c =
    let s = (goal.at.loop-i-preserved c).In_ok-check_summary in
    let k : c.loop-i.i < 1024 = omega (arith, c.flags-i-end.ensures, (whole s).fits.limits.flags) in
    rw (
      c.loop-i.invariant,
      c.mark_byte.ensures,
      byte_is _ _ (passed s).plan _ c.under_words-words.ensures
          (c.in_ok-check_summary.ensures.stands refl) c.loop-i.i k,
    ) (overlay_more _ _ _)

pub shape_of-out : goal.shape_of-out
shape_of-out c = rw c.loop-i.invariant (length_overlay _ _ _)

pub returns : goal.returns
returns c =
    let e : c.loop-i.i ≡ 16 * flag_count c.args.plan.now = omega (arith, c.flags-i-end.ensures) in
    rw (c.loop-i.invariant, e) (summary_written _ _ _ _ (sym c.in_ok-check_summary.ensures.returns))
