-- `plan_format::fields::parent` meets its contract. Assumes nothing.
use native.Mathlib.Omega.{arith}
use Rattle.plan_format.specs.Format.{parent_of, entry_at}
use Rattle.plan_format.proofs.fields.parent.Goals as goal

pub bounds-plan-at : goal.bounds-plan-at
unfolding entry_at
bounds-plan-at c = omega arith

pub returns : goal.returns
unfolding parent_of
returns c = rw c.entry_at-at.ensures

pub entry_at-at-requires : goal.entry_at-at-requires
entry_at-at-requires c = c.requires
