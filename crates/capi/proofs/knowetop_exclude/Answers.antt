-- `knowetop_exclude` meets its contract. Assumes nothing.
use Rattle.capi.proofs.Numbers.{verdict_is}
use Rattle.capi.proofs.Members.{member_told}
use Rattle.capi.proofs.knowetop_exclude.Goals as goal

pub returns : goal.returns
returns c = member_told c.exclude.ensures (verdict_is _ c.verdict_number.ensures)
