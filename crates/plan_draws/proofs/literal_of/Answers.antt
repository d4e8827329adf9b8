-- `literal_of` meets its contract. Assumes nothing.
use Rattle.std.proofs.Common.{arith}
use Rattle.plan_draws.proofs.Fields.{literal_is}
use Rattle.plan_draws.proofs.literal_of.Goals as goal

pub returns : goal.returns
returns c = literal_is _ c.requires.0 _ c.requires.2 c.args.i _ c.requires.1 (omega arith)
