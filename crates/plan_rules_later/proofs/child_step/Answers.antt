-- `plan_rules_later::child_step` meets its contract. Assumes nothing.
use Rattle.plan_rules_later.specs.Passes.{child_step}
use Rattle.plan_rules_later.proofs.child_step.Goals as goal

pub returns : goal.returns
unfolding child_step
returns c = rw (c.then_some.ensures, c.is_group.ensures, c.parent.ensures)

pub is_group-requires : goal.is_group-requires
is_group-requires c = c.requires.1

pub parent-requires : goal.parent-requires
parent-requires c = c.requires
