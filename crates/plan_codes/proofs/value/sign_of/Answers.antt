-- `plan_codes::value::sign_of` meets its contract. Assumes nothing.
use Rattle.std.proofs.Common.{rules}
use Rattle.plan_codes.proofs.Values.{within, sign_in}
use Rattle.plan_codes.proofs.value.sign_of.Goals as goal

pub returns : goal.returns
returns c = let m = rw (c.parse.ensures, within c.args.v c.requires) at c.map_or.ensures in
    let e = sign_in c.args.v in search rules
