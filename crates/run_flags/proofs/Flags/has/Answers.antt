-- `Flags::has` meets its contract. Assumes nothing.
use Rattle.base.specs.Bits.{bit}
use Rattle.run_flags.specs.Flags.{flag_in}
use borrow.Author.Rules.{rules}
use Rattle.run_flags.proofs.Flags.has.Goals as goal

pub returns : goal.returns
unfolding flag_in bit
returns c = search rules
