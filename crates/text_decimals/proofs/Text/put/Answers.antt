-- `put` meets its contract. Assumes nothing.
use Rattle.std.proofs.Common.{refl}
use Rattle.text_decimals.proofs.Written.{wrote_one}
use Rattle.text_decimals.proofs.Text.put.Goals as goal

pub returns : goal.returns
returns c = record { same_reference = refl; wrote = wrote_one }
