-- `run_enabled::path` meets its contract. Assumes nothing.
use Rattle.base.proofs.Zeros.{zeros}
use Rattle.tables.specs.Sizes.{NODES}
use mathlib.Core.Path.{◌≡◌, ◌∙◌}
use Prim.Native.Nat.{◌<◌}
use Rattle.plan_check.proofs.Accepted.{clean}
use Rattle.runs.specs.Plan.{itself}
use Rattle.run_enabled.proofs.Marks.{parent_lower, parent_above, first_mark, next_mark, last_mark}
use native.Mathlib.Omega.{arith}
use Rattle.run_enabled.proofs.path.Goals as goal
use Rattle.run_enabled.proofs.path.Goals.{Start}

node_small : (c : Start) → c.args.node < 128
node_small c = omega (arith, c.requires.0, (clean _ c.requires.1).fits.limits.nodes)

pub loop-n-init : goal.loop-n-init
loop-n-init c = (
  itself,
  (
    c.requires.0,
    first_mark _ _ _ (zeros NODES) (node_small (goal.at.loop-n-init c).Start),
  ),
)

pub parent-requires : goal.parent-requires
parent-requires c = (c.loop-n.invariant.1.0, (clean _ c.requires.1).fits)

pub bounds-marks-n-in-loop-n : goal.bounds-marks-n-in-loop-n
bounds-marks-n-in-loop-n c =
    let up = c.from-n.ensures ∙ c.parent.ensures in
    omega (
      arith,
      parent_lower _ c.requires.1 c.loop-n.n c.from-n.result (omega arith) c.loop-n.invariant.1.0 up,
      c.loop-n.invariant.1.0,
      (clean _ c.requires.1).fits.limits.nodes,
    )

pub loop-n-smaller : goal.loop-n-smaller
loop-n-smaller c =
    parent_lower _ c.requires.1 c.loop-n.n c.from-n.result (omega arith) c.loop-n.invariant.1.0
    (c.from-n.ensures ∙ c.parent.ensures)

pub loop-n-preserved : goal.loop-n-preserved
loop-n-preserved c =
    let l = c.loop-n.invariant in
    let up = c.from-n.ensures ∙ c.parent.ensures in
    let lower = parent_lower _ c.requires.1 c.loop-n.n c.from-n.result (omega arith) l.1.0 up in
    let u = parent_above _ c.requires.1 c.loop-n.n c.from-n.result (omega arith) l.1.0 up l.0 in (
      u,
      (
        omega (arith, lower, l.1.0),
        next_mark _ _ c.loop-n.n c.from-n.result c.loop-n.marks up
            (omega (arith, lower, l.1.0, (clean _ c.requires.1).fits.limits.nodes)) u l.1.1,
      ),
    )

pub returns : goal.returns
returns c =
    let e : c.loop-n.n ≡ 0 = omega arith in
    (c.loop-n.invariant.1.1.0, last_mark _ _ c.requires.1 c.loop-n.marks (rw e at c.loop-n.invariant.1.1))

pub bounds-marks-n : goal.bounds-marks-n
bounds-marks-n c = node_small (goal.at.bounds-marks-n c).Start
