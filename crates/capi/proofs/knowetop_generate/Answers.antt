-- `knowetop_generate` meets its contract. Assumes nothing.
use Rattle.capi.proofs.Numbers.{written_is, short_is}
use Rattle.capi.proofs.Generated.{plan_short, generated_told}
use Rattle.capi.proofs.knowetop_generate.Goals as goal

pub written_number-requires : goal.written_number-requires
written_number-requires c = short_is _ (plan_short _ c.generate.ensures)

pub returns : goal.returns
returns c = generated_told c.generate.ensures (written_is _ c.written_number.ensures)
