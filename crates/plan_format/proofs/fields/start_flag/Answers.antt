-- `plan_format::fields::start_flag` meets its contract. Assumes nothing.
use mathlib.Core.Path.{refl}
use Rattle.plan_format.specs.Format.{start_flag}
use Rattle.plan_format.proofs.fields.start_flag.Goals as goal

pub returns : goal.returns
unfolding start_flag
returns c = refl
