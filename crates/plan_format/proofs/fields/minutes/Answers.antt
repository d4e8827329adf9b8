-- `plan_format::fields::minutes` meets its contract. Assumes nothing.
use native.Mathlib.Omega.{arith}
use Rattle.plan_format.specs.Format.{minutes_of, entry_at}
use Rattle.plan_format.proofs.fields.minutes.Goals as goal

pub overflow_add-entry_at : goal.overflow_add-entry_at
unfolding entry_at
overflow_add-entry_at c = omega arith

pub u16_at-requires : goal.u16_at-requires
unfolding entry_at
u16_at-requires c = omega arith

pub returns : goal.returns
unfolding minutes_of
returns c = rw (c.u16_at.ensures, c.entry_at.ensures)

pub entry_at-requires : goal.entry_at-requires
entry_at-requires c = c.requires
