-- `byte_with` meets its contract. Assumes nothing.
use mathlib.Core.Path.{◌≡◌, ◌∙◌}
use Prim.Native.Nat.{ℕ, ◌*◌, ◌^◌, ◌%◌, ◌<◌}
use native.Mathlib.Nat.{one-mul}
use native.Mathlib.Omega.{arith}
use lib.Pow.{shl_exact}
use borrow.Author.Tests.{eq-eqb, ne_eqb}
use Rattle.base.specs.Bits.{bit}
use Rattle.run_flags.specs.Inner.{byte_with}
use Rattle.run_flags.proofs.byte_with.Goals as goal

mask : (k : ℕ) → k < 8 → (1 * 2 ^ k) % 2 ^ 8 ≡ 2 ^ k
mask k l = shl_exact 1 k 8 (omega arith) (omega arith) ∙ one-mul (2 ^ k)

pub returns-then-sign : goal.returns-then-sign
unfolding byte_with
returns-then-sign c = simp (mask c.args.k (omega arith), c.if-sign.true)

pub returns-then-x-k-eq1 : goal.returns-then-x-k-eq1
unfolding byte_with bit
returns-then-x-k-eq1 c = simp (mask c.args.k (omega arith), c.if-sign.false, eq-eqb _ _ c.if-x-k-eq1.true)

pub returns-else-x-k-eq1 : goal.returns-else-x-k-eq1
unfolding byte_with bit
returns-else-x-k-eq1 c = simp (c.if-sign.false, ne_eqb _ _ c.if-x-k-eq1.false)
