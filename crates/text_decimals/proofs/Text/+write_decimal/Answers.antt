-- `write_decimal` meets its contract: the digits of n / 10 first, where there are more, and then the last. Assumes
-- nothing.
use Rattle.std.proofs.Common.{sym, arith}
use Rattle.text_decimals.proofs.Decimals.{decimal_digit, decimal_more, length_digit, length_more}
use Rattle.text_decimals.proofs.Writes.{writes_long, writes_then, writes_same}
use Rattle.text_decimals.proofs.Text.+write_decimal.Goals.{then-n-ge10, else-n-ge10}
use Rattle.text_decimals.proofs.Text.+write_decimal.Goals as goal

pub write_decimal-requires : goal.write_decimal-requires
write_decimal-requires t c =
    (omega (arith, c.decreases), omega (arith, c.requires, length_more c.args.n (omega arith)))

pub put-requires : goal.put-requires
put-requires t c = elim c.if-n-ge10.branch [
  | then-n-ge10 w ↦ let h = w.write_decimal.ensures in
      rw w.self-is (omega (arith, h.wrote.next, writes_long h, c.requires, length_more c.args.n (omega arith)))
  | else-n-ge10 w ↦ rw w.self-is (omega (arith, c.requires, length_digit c.args.n (omega arith)))
]

pub returns : goal.returns
returns t c = elim c.if-n-ge10.branch [
  | then-n-ge10 w ↦ writes_same (sym (decimal_more c.args.n (omega arith)))
      (writes_then w.write_decimal.ensures (rw w.self-is at c.put.ensures))
  | else-n-ge10 w ↦ writes_same (sym (decimal_digit c.args.n (omega arith))) (rw w.self-is at c.put.ensures)
]
