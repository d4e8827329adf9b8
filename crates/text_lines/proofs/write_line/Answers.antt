-- `write_line` meets its contract. Assumes nothing.
use Rattle.text_decimals.proofs.Writes.{writes_long, writes_then, writes_same}
use Rattle.text_order.proofs.Keys.{name_length}
use Rattle.text_lines.proofs.Text.{line_length, line_is}
use native.Mathlib.Omega.{arith}
use Rattle.text_lines.proofs.write_line.Goals as goal

pub write_name-requires : goal.write_name-requires
write_name-requires c =
    (c.requires.0, c.requires.1, omega (arith, c.requires.2, line_length c.args.plan.now c.args.t c.args.wait))

pub end_line-requires : goal.end_line-requires
end_line-requires c =
    let w = c.write_name.ensures in
    omega (
      arith,
      c.requires.2,
      w.wrote.next,
      writes_long w,
      name_length c.args.plan.now c.args.t,
      line_length c.args.plan.now c.args.t c.args.wait,
    )

pub returns : goal.returns
returns c = writes_same (line_is _ _ _)
    (writes_then c.write_name.ensures
    c.end_line.ensures)
