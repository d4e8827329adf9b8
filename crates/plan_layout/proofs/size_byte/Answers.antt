-- `size_byte` meets its contract. Assumes nothing.
use mathlib.Core.Path.{ap, ◌∙◌}
use Prim.Native.Nat.{ℕ, ◌/◌, ◌%◌}
use native.Mathlib.Omega.{arith}
use Rattle.plan_layout.proofs.Parts.{number_small, size_low, size_high}
use Rattle.plan_layout.proofs.size_byte.Goals as goal

pub overflow_cast-result-else-i-eq0 : goal.overflow_cast-result-else-i-eq0
overflow_cast-result-else-i-eq0 c =
    omega (arith, c.size_number-number.ensures, number_small c.args.sizes (c.args.i / 2) c.requires)

pub returns-then-i-eq0 : goal.returns-then-i-eq0
returns-then-i-eq0 c = ap (λ (n : ℕ). n % 256) c.size_number-number.ensures ∙ size_low _ _ (omega arith)

pub returns-else-i-eq0 : goal.returns-else-i-eq0
returns-else-i-eq0 c = ap (λ (n : ℕ). n / 256) c.size_number-number.ensures ∙ size_high _ _ (omega arith)
