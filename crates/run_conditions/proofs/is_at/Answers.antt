-- `run_conditions::is_at` meets its contract. Assumes nothing.
use Rattle.plan_check.proofs.Accepted.{clean}
use Rattle.run_conditions.proofs.Conditions.{values}
use native.Mathlib.Omega.{arith}
use Rattle.run_conditions.proofs.is_at.Goals as goal

pub condition_value-requires : goal.condition_value-requires
condition_value-requires c = (c.requires.0, (clean _ c.requires.1).fits)

pub place_of-requires : goal.place_of-requires
place_of-requires c = omega (arith, c.condition_value.ensures, (values _ c.requires.1).value c.args.i c.requires.0)

pub returns : goal.returns
returns c = rw (c.place_of.ensures, c.condition_value.ensures)
