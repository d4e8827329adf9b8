-- `knowetop_verdict` meets its contract. Assumes nothing.
use Rattle.capi.proofs.Numbers.{verdict_is}
use Rattle.capi.proofs.Told.{verdict_told}
use Rattle.capi.proofs.knowetop_verdict.Goals as goal

pub returns : goal.returns
returns c = verdict_told _ _ _ c.assess.ensures (verdict_is _ c.verdict_number.ensures)
