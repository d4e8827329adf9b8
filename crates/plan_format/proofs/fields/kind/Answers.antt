-- `plan_format::fields::kind` meets its contract. Assumes nothing.
use native.Mathlib.Omega.{arith}
use Rattle.plan_format.specs.Format.{kind_of, entry_at}
use Rattle.plan_format.proofs.fields.kind.Goals as goal

pub overflow_add-at : goal.overflow_add-at
unfolding entry_at
overflow_add-at c = omega arith

pub bounds-plan-at : goal.bounds-plan-at
unfolding entry_at
bounds-plan-at c = omega arith

pub returns : goal.returns
unfolding kind_of
returns c = rw c.entry_at-at.ensures

pub entry_at-at-requires : goal.entry_at-at-requires
entry_at-at-requires c = c.requires
