-- `knowetop_merge` meets its contract. Assumes nothing.
use Rattle.capi.proofs.Numbers.{written_is, short_is}
use Rattle.capi.proofs.Merged.{merged_short, merged_told}
use Rattle.capi.proofs.knowetop_merge.Goals as goal

pub written_number-requires : goal.written_number-requires
written_number-requires c = short_is _ (merged_short _ c.merge.ensures)

pub returns : goal.returns
returns c = merged_told c.merge.ensures (written_is _ c.written_number.ensures)
