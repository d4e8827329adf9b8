-- `holders` meets its contract. Assumes nothing.
use Rattle.base.proofs.Zeros.{zeros}
use Rattle.tables.specs.Sizes.{STARTS}
use mathlib.Core.Path.{◌≡◌, sym, ap, ◌∙◌}
use Prim.Native.Nat.{ℕ}
use mathlib.Core.Bool.{true≢false}
use native.Mathlib.Omega.{arith}
use Rattle.base.specs.Count.{count_below}
use Rattle.plan_format.specs.Format.{node_count}
use Rattle.base.proofs.Count.{count_le}
use Rattle.base.proofs.Tally.{tally_start}
use Rattle.run_starts.specs.Starts.{holders}
use Rattle.run_starts.proofs.Counts.{holds, held_one, held_none}
use Rattle.run_starts.proofs.holders.Goals as goal
use Rattle.run_starts.proofs.holders.Goals.{then-is_started+then-k-lt-STARTS, else-is_started}
use Rattle.run_starts.proofs.holders.Goals.{else-is_started-via-then-is_started+else-k-lt-STARTS}
use Rattle.run_starts.proofs.holders.Goals.{else-is_started-via-else-is_started}

pub loop-n-init : goal.loop-n-init
loop-n-init c = tally_start _ 129 _ (zeros STARTS)

pub overflow_add-table : goal.overflow_add-table
overflow_add-table c = omega (
  arith,
  c.loop-n.invariant.1 _ c.if-k-lt-STARTS.true,
  count_le c.loop-n.n (holds c.args.plan.now c.args.state.now c.ordinal-k.result),
  c.requires.plan.limits.nodes,
)

pub loop-n-preserved : goal.loop-n-preserved
loop-n-preserved c =
    elim c.if-is_started.branch [
      | then-is_started+then-k-lt-STARTS w ↦
          held_one _ _ c.loop-n.n _ c.ordinal-k.ensures c.loop-n.table c.if-is_started.table c.loop-n.invariant
          (sym c.is_started.ensures ∙ w.if-is_started.true) w.if-k-lt-STARTS.true w.table-is
      | else-is_started w ↦
          held_none _ _ c.loop-n.n _ c.ordinal-k.ensures c.loop-n.table c.if-is_started.table c.loop-n.invariant
          (λ y l. elim w.else-is_started.branch [
            | else-is_started-via-then-is_started+else-k-lt-STARTS v ↦ omega arith
            | else-is_started-via-else-is_started v ↦
                true≢false (sym y ∙ sym c.is_started.ensures ∙ v.if-is_started.false)
          ]) w.table-is
    ]

pub returns : goal.returns
unfolding holders
returns c =
    let a = c.args in
    let e : c.loop-n.n ≡ node_count a.plan.now = omega arith in (
      c.loop-n.invariant.0,
      λ k h. c.loop-n.invariant.1 k h ∙ ap (λ (n : ℕ). count_below n (holds a.plan.now a.state.now k)) e,
    )
