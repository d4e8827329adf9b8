-- `end_line` meets its contract. Assumes nothing.
use Rattle.text_decimals.proofs.Writes.{writes_long, writes_then, writes_same}
use Rattle.text_lines.proofs.Text.{ending_length, ending_is}
use native.Mathlib.Omega.{arith}
use Rattle.text_lines.proofs.end_line.Goals as goal

pub put-requires : goal.put-requires
put-requires c = omega (arith, c.requires, ending_length c.args.n)

pub write_decimal-requires : goal.write_decimal-requires
write_decimal-requires c =
    let p = c.put.ensures in
    omega (arith, c.requires, ending_length c.args.n, p.wrote.next, writes_long p)

pub put-requires-2 : goal.put-requires-2
put-requires-2 c =
    let p = c.put.ensures in
    let w = c.write_decimal.ensures in
    omega (arith, c.requires, ending_length c.args.n, p.wrote.next, writes_long p, w.wrote.next, writes_long w)

pub returns : goal.returns
returns c = writes_same (ending_is _)
    (writes_then (writes_then c.put.ensures c.write_decimal.ensures) c.put-2.ensures)
