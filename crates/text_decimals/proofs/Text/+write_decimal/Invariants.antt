-- `write_decimal` meets its contract, n falling. Assumes nothing.
use Rattle.text_decimals.proofs.Text.+write_decimal.Given as goal

abbrev pub decreases-write_decimal : goal.decreases-write_decimal
decreases-write_decimal l = l.n
