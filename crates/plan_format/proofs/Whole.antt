-- A whole plan. Assumes nothing.
use Prim.Native.Nat.{ℕ, ◌≤◌}
use mathlib.Core.List.{List}
use lib.ListN.{length}
use native.Mathlib.Omega.{arith}
use Rattle.plan_format.specs.Whole.{Whole}

-- it has its head
pub whole_head : {b : List ℕ} → Whole b → 16 ≤ length b
whole_head w = omega arith
