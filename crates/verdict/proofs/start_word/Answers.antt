-- `start_word` meets its contract: the word of the flags below f. Assumes nothing.
use mathlib.Core.Path.{◌≡◌, sym, ap, ◌∙◌}
use Prim.Native.Nat.{ℕ}
use native.Mathlib.Omega.{arith}
use lib.Bits.{bit_or}
use Rattle.base.proofs.Bits.{one_shl}
use Rattle.plan_format.specs.Format.{flag_count}
use Rattle.plan_check.proofs.Accepted.{clean}
use Rattle.verdict.proofs.Start.{start_none, start_set, start_clear, start_all}
use Rattle.verdict.proofs.start_word.Goals as goal
use Rattle.verdict.proofs.start_word.Goals.{else-start_flag, then-start_flag}

pub flags-f-end-requires : goal.flags-f-end-requires
flags-f-end-requires c = (clean _ c.requires).fits.limits.long

pub loop-f-init : goal.loop-f-init
loop-f-init c g l = start_none _ g

pub start_flag-requires : goal.start_flag-requires
start_flag-requires c =
    let w = (clean _ c.requires).fits.limits in
    (omega (arith, c.flags-f-end.ensures, w.flags), w.long)

pub overflow_shl-word : goal.overflow_shl-word
overflow_shl-word c =
    omega (arith, c.flags-f-end.ensures, (clean _ c.requires).fits.limits.flags)

pub loop-f-preserved : goal.loop-f-preserved
loop-f-preserved c =
    let s = c.start_flag.ensures in
    let n = (clean _ c.requires).fits.limits.flags in
    let f = c.loop-f.f in
    elim c.if-start_flag.branch [
      | then-start_flag w ↦ start_set _ f c.loop-f.invariant
          (w.word-is ∙ ap (λ (x : ℕ). bit_or c.loop-f.word x) (one_shl f (omega (arith, c.flags-f-end.ensures, n))))
          (sym s ∙ w.if-start_flag.true)
      | else-start_flag w ↦ rw w.word-is (start_clear _ f c.loop-f.invariant (sym s ∙ w.if-start_flag.false))
    ]

pub returns : goal.returns
returns c =
    let e : c.loop-f.f ≡ flag_count c.args.plan.now = omega (arith, c.flags-f-end.ensures) in
    start_all _ (rw e at c.loop-f.invariant)
