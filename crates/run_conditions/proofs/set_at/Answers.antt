-- `run_conditions::set_at` meets its contract. Assumes nothing.
use Rattle.plan_check.proofs.Accepted.{clean}
use Rattle.run_state.specs.Made.{set_at}
use Rattle.run_conditions.proofs.Conditions.{values}
use native.Mathlib.Omega.{arith}
use Rattle.run_conditions.proofs.set_at.Goals as goal

pub condition_value-requires : goal.condition_value-requires
condition_value-requires c = (c.requires.0, (clean _ c.requires.1).fits)

pub sign_of-requires : goal.sign_of-requires
sign_of-requires c = omega (arith, c.condition_value.ensures, (values _ c.requires.1).value c.args.i c.requires.0)

pub returns : goal.returns
unfolding set_at
returns c = rw (c.sign_of.ensures, c.condition_value.ensures)
