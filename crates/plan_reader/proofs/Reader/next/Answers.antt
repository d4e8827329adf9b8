-- `plan_reader::Reader::next` meets its contract: the next position fits. Assumes nothing.
use Rattle.std.proofs.Common.{arith}
use Rattle.plan_reader.proofs.Positions.{next_fits}
use Rattle.plan_reader.proofs.Reader.next.Goals as goal

pub overflow_add-self : goal.overflow_add-self
overflow_add-self c = omega (arith, next_fits c.requires.1 c.requires.0)
