-- `run_conditions::flag_at` meets its contract. Assumes nothing.
use mathlib.Core.Path.{ap, ◌∙◌}
use Rattle.plan_check.proofs.Accepted.{clean}
use Rattle.plan_codes.specs.Values.{flag_of}
use Rattle.run_conditions.proofs.Literals.{flag_small}
use Rattle.run_conditions.proofs.Conditions.{values}
use native.Mathlib.Omega.{arith}
use Rattle.run_conditions.proofs.flag_at.Goals as goal

pub condition_value-requires : goal.condition_value-requires
condition_value-requires c = (c.requires.0, (clean _ c.requires.1).fits)

pub flag_of-requires : goal.flag_of-requires
flag_of-requires c = omega (arith, c.condition_value.ensures, (values _ c.requires.1).value c.args.i c.requires.0)

pub returns : goal.returns
returns c = (
  c.from.ensures ∙ c.flag_of.ensures ∙ ap flag_of c.condition_value.ensures,
  omega (arith, c.from.ensures, c.flag_of.ensures, flag_small c.condition_value.result),
)
