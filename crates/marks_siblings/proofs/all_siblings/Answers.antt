-- `all_siblings` meets its contract. Assumes nothing.
use mathlib.Core.Path.{◌≡◌, refl}
use native.Mathlib.Omega.{arith}
use Rattle.tables.proofs.Segments.{listed}
use Rattle.marks_siblings.proofs.Sibling.{with_sibling, no_siblings, all_siblings}
use Rattle.marks_siblings.proofs.all_siblings.Goals as goal

pub loop-i-init : goal.loop-i-init
loop-i-init c = λ p n g o hc. no_siblings g o hc refl

pub loop-i-preserved : goal.loop-i-preserved
loop-i-preserved c =
    let low = c.loop-i.auto.i in
    let e = c.from.ensures in
    λ p n g o hc. with_sibling g o hc low e (listed g.listed e (record { low = low; high = c.loop-i-test.true }))
    c.with_sibling-s.ensures (c.loop-i.invariant p n g o hc)

pub returns : goal.returns
returns c =
    let last : c.loop-i.i ≡ c.args.segment.end = omega arith in
    λ p n g o hc. all_siblings g o hc (rw last at (c.loop-i.invariant p n g o hc))
