-- `earlier_nodes` meets its contract. Assumes nothing.
use Rattle.std.proofs.Common.{arith}
use Rattle.std.proofs.lemmas.Grind.{common_steps}
use Rattle.plan_format.specs.Format.{earlier_of}
use Rattle.wait_group.proofs.earlier_nodes.Goals as goal

pub returns-clause-each : goal.returns-clause-each
unfolding earlier_of
returns-clause-each c j l = grind (arith, common_steps, c.nodes.ensures, c.conditions.ensures)
