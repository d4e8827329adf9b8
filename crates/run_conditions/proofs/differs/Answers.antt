-- `run_conditions::differs` meets its contract. Assumes nothing.
use mathlib.Core.Path.{◌≡◌, refl}
use mathlib.Core.Bool.{Bool, true, false, not, beq}
use Rattle.runs.specs.Tests.{same_b}
use Rattle.run_conditions.proofs.differs.Goals as goal

unequal : (x y : Bool) → not (beq x y) ≡ not (same_b x y)
unfolding same_b
unequal true true = refl
unequal true false = refl
unequal false true = refl
unequal false false = refl

pub returns : goal.returns
returns c = unequal c.args.sign c.args.value
