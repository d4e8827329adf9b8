-- `value_part` meets its contract. Assumes nothing.
use native.Mathlib.Omega.{arith}
use Rattle.plan_layout.proofs.Parts.{value_low, value_high}
use Rattle.plan_layout.proofs.value_part.Goals as goal

pub returns-then-k-eq0 : goal.returns-then-k-eq0
returns-then-k-eq0 c = value_low _ (omega arith)

pub returns-else-k-eq0 : goal.returns-else-k-eq0
returns-else-k-eq0 c = value_high _ (omega arith)
