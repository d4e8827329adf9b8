-- `task_lengths` meets its contract: the tasks below t are done. Assumes nothing.
use mathlib.Core.Path.{sym, ◌∙◌}
use Rattle.plan_check.proofs.Accepted.{clean}
use Rattle.wait_tree.proofs.Tasks.{tasks_none, tasks_more, tasks_skip, tasks_all}
use native.Mathlib.Omega.{arith}
use Rattle.wait_tree.proofs.task_lengths.Goals as goal
use Rattle.wait_tree.proofs.task_lengths.Goals.{else-kind, then-kind}

pub nodes-t-end-requires : goal.nodes-t-end-requires
nodes-t-end-requires c = (clean _ c.requires.0).fits.limits.long

pub loop-t-init : goal.loop-t-init
loop-t-init c = tasks_none c.requires.1

pub kind-requires : goal.kind-requires
kind-requires c = (omega arith, (clean _ c.requires.0).fits)

pub minutes-requires : goal.minutes-requires
minutes-requires c = (omega arith, (clean _ c.requires.0).fits)

pub offset_bounds-lengths-t : goal.offset_bounds-lengths-t
offset_bounds-lengths-t c = omega (arith, (clean _ c.requires.0).fits.limits.nodes, c.nodes-t-end.ensures)

pub bounds-lengths-t : goal.bounds-lengths-t
bounds-lengths-t c = omega (arith, (clean _ c.requires.0).fits.limits.nodes, c.nodes-t-end.ensures)

pub loop-t-preserved : goal.loop-t-preserved
loop-t-preserved c =
    let ok = clean _ c.requires.0 in
    elim c.if-kind.branch [
      | then-kind w ↦ tasks_more ok (omega arith) (sym c.kind.ensures ∙ w.if-kind.true)
          (w.from.ensures ∙ w.minutes.ensures) w.lengths-is c.loop-t.invariant
      | else-kind w ↦ tasks_skip (λ z. w.if-kind.false (c.kind.ensures ∙ z)) w.lengths-is
          c.loop-t.invariant
    ]

pub returns : goal.returns
returns c = tasks_all (clean _ c.requires.0) (omega arith) c.requires.2 c.loop-t.invariant
