-- `plan_format::fields::u16_at` meets its contract. Assumes nothing.
use native.Mathlib.Omega.{arith}
use Rattle.plan_format.specs.Format.{u16_at}
use Rattle.plan_format.proofs.fields.u16_at.Goals as goal

pub returns : goal.returns
unfolding u16_at
returns c = omega arith
