-- `plan_codes::value::flag_of` meets its contract. Assumes nothing.
use Rattle.std.proofs.Common.{rules}
use Rattle.plan_codes.proofs.Values.{within}
use Rattle.plan_codes.proofs.value.flag_of.Goals as goal

pub returns : goal.returns
returns c = let m = rw (c.parse.ensures, within c.args.v c.requires) at c.map_or.ensures in search rules
