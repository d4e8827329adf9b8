-- The number of a length or a refusal tells it (`tells`); a plan has at most 5,136 bytes (`length_short`). Assumes
-- nothing.
use mathlib.Core.Path.{◌≡◌, refl}
use mathlib.Core.Logic.{◌⊎◌, inl, inr}
use mathlib.Core.List.{List}
use Prim.Native.Nat.{ℕ, ◌+◌, ◌-◌, ◌<◌, ◌≤◌}
use native.Mathlib.Omega.{arith}
use lib.ListN.{length, take}
use lib.Seq.{length-take-le}
use borrow.Author.Tests.{lt-ltb, le-ltb}
use Rattle.plan_format.specs.Format.{whole_length}
use Rattle.plan_rules.specs.Rules.{refusal}
use Rattle.plan_check.proofs.Accepted.{clean}
use Rattle.capi_numbers.specs.Numbers.{written_number}
use Rattle.capi.specs.Told.{written_by}

-- a refusal is no length
pub tells : (a : ℕ ⊎ ℕ) → ((n : ℕ) → a ≡ inl n → n < 256) → a ≡ written_by (written_number a)
tells (inl n) h = rw (lt-ltb n 256 (h n refl))
tells (inr n) h = let e : 256 + n - 256 ≡ n = omega arith in rw (le-ltb (256 + n) 256 (omega arith), e)

-- the first n bytes are a plan
pub length_short : (n : ℕ) (b : List ℕ) → n ≤ length b → refusal (take n b) ≡ 0 → n ≤ 5136
unfolding whole_length
length_short n b l e =
    let w = (clean (take n b) e).fits in
    omega (arith, length-take-le n b l, w.whole, w.limits.nodes, w.limits.conditions, w.limits.orders)
