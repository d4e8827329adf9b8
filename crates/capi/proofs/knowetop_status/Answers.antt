-- `knowetop_status` meets its contract. Assumes nothing.
use Rattle.capi.proofs.Numbers.{status_is}
use Rattle.capi.proofs.Told.{status_told}
use Rattle.capi.proofs.knowetop_status.Goals as goal

pub returns : goal.returns
returns c = status_told _ _ _ _ c.status.ensures (status_is _ c.status_number.ensures)
