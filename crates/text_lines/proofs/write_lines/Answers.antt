-- `write_lines` meets its contract: the lines of the tasks before this one are written. Assumes nothing.
use mathlib.Core.Path.{ap}
use lib.ListN.{length}
use Rattle.plan_check.proofs.Accepted.{clean}
use Rattle.text_decimals.proofs.Writes.{writes_long}
use Rattle.text_order.proofs.Order.{ranking_length}
use Rattle.text_lines.proofs.Text.{task_limit, lines_none, line_task, lines_turn, lines_all}
use native.Mathlib.Omega.{arith}
use Rattle.text_lines.proofs.write_lines.Goals as goal

pub loop-task-init : goal.loop-task-init
loop-task-init c = lines_none (clean _ c.requires.0)

pub loop-task-preserved : goal.loop-task-preserved
loop-task-preserved c =
    let ok = clean _ c.requires.0 in
    let t = line_task ok c.requires.2 (omega arith) c.from-t.ensures in
    lines_turn ok (omega (arith, ap length c.requires.2)) t.0 t.1 (c.requires.1.is _ t.0)
    c.write_line.ensures c.loop-task.invariant

pub offset_bounds-waits-t : goal.offset_bounds-waits-t
offset_bounds-waits-t c = omega (arith, c.from-t.ensures)

pub bounds-waits-t : goal.bounds-waits-t
bounds-waits-t c =
    let ok = clean _ c.requires.0 in
    omega (arith, (line_task ok c.requires.2 (omega arith) c.from-t.ensures).0, ok.fits.limits.nodes)

pub write_line-requires : goal.write_line-requires
write_line-requires c =
    let ok = clean _ c.requires.0 in
    let t = (line_task ok c.requires.2 (omega arith) c.from-t.ensures).0 in (
      c.requires.0,
      t,
      omega (
        arith,
        c.requires.3,
        c.loop-task.invariant.short,
        ap length c.requires.2,
        ranking_length _ ok,
        writes_long c.loop-task.invariant.writes,
        task_limit ok t (c.requires.1.is _ t),
      ),
    )

pub returns : goal.returns
returns c =
    lines_all (clean _ c.requires.0) (omega (arith, ap length c.requires.2)) c.loop-task.invariant
