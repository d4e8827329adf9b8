-- `knowetop_sequence` meets its contract. Assumes nothing.
use Rattle.capi.proofs.Numbers.{finding_is}
use Rattle.capi.proofs.Sequence.{sequence_told}
use Rattle.capi.proofs.knowetop_sequence.Goals as goal

pub returns : goal.returns
returns c = sequence_told _ _ c.sequence.ensures (finding_is _ c.sequence_number.ensures)
