-- `run_flags::Flags::with` meets its contract. Assumes nothing.
use Rattle.run_flags.specs.Inner.{with_flag}
use Rattle.run_flags.proofs.Flags.with.Goals as goal

pub returns : goal.returns
unfolding with_flag
returns c = rw c.byte_with.ensures
