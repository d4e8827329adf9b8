-- `plan_format::fields::name_char` meets its contract. Assumes nothing.
use Rattle.plan_format.specs.Format.{name_char}
use mathlib.Core.Path.{refl}
use Rattle.plan_format.proofs.fields.name_char.Goals as goal

pub returns : goal.returns
unfolding name_char
returns c = refl
