-- `write_name` meets its contract: the characters of a name are four bytes of the plan. Assumes nothing.
use Rattle.plan_check.proofs.Accepted.{clean}
use Rattle.text_decimals.proofs.Writes.{writes_same}
use Rattle.text_lines.proofs.Text.{name_bytes}
use Prim.Native.Nat.{◌+◌, ◌-◌, ◌*◌}
use native.Mathlib.Omega.{arith}
use Rattle.text_lines.proofs.write_name.Goals as goal

pub overflow_mul-from : goal.overflow_mul-from
overflow_mul-from c = let ok = clean _ c.requires.0 in
    omega (arith, ok.fits.whole, ok.fits.limits.nodes, c.requires.1)

pub overflow_add-from : goal.overflow_add-from
overflow_add-from c = let ok = clean _ c.requires.0 in
    omega (arith, ok.fits.whole, ok.fits.limits.nodes, c.requires.1)

pub overflow_add-end : goal.overflow_add-end
overflow_add-end c = let ok = clean _ c.requires.0 in
    omega (arith, ok.fits.whole, ok.fits.limits.nodes, c.requires.1)

pub slice_bounds-write_bytes-end : goal.slice_bounds-write_bytes-end
slice_bounds-write_bytes-end c = let ok = clean _ c.requires.0 in
    omega (arith, ok.fits.whole, ok.fits.limits.nodes, c.requires.1)

pub returns : goal.returns
returns c =
    writes_same (name_bytes c.args.plan.now c.args.t (16 + 4 * c.args.t + 4 - (16 + 4 * c.args.t))
    (omega arith) (let ok = clean _ c.requires.0 in omega (arith, ok.fits.whole, c.requires.1)))
    c.write_bytes.ensures
