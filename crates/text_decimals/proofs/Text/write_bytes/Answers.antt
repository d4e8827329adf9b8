-- `write_bytes` meets its contract. Assumes nothing.
use Rattle.std.proofs.Common.{refl}
use Rattle.text_decimals.proofs.Written.{wrote_over}
use native.Mathlib.Omega.{arith}
use Rattle.text_decimals.proofs.Text.write_bytes.Goals as goal

pub returns : goal.returns
returns c = record {
  same_reference = refl;
  wrote = wrote_over c.requires (omega arith) c.copy_from_slice.ensures.after;
}
