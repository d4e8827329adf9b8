-- A recipe has one plan. Assumes nothing.
use mathlib.Core.Path.{refl}
use mathlib.Core.List.{List, [], ◌∷◌}
use Prim.Native.Nat.{ℕ, zero, suc}
use native.Mathlib.Omega.{arith}
use lib.ListN.{take}
use Rattle.base.specs.Bytes.{Bytes}
use Rattle.plan_generate.proofs.Only.{generated_only}
use Rattle.claims.specs.Generated.{OnePlan, PlansSame}

pub one_plan : OnePlan
one_plan = generated_only

-- the first of some bytes are bytes
first_bytes : (n : ℕ) (b : List ℕ) → Bytes b → Bytes (take n b)
first_bytes zero b h i = omega arith
first_bytes (suc n) [] h i = omega arith
first_bytes (suc n) (x ∷ b) h zero = h 0
first_bytes (suc n) (x ∷ b) h (suc i) = first_bytes n b (λ j. h (suc j)) i

pub plans_same : PlansSame
plans_same r out out' mem mem' n m x y g k =
    one_plan r (take n out') (take m mem') (first_bytes n out' x) (first_bytes m mem' y) (g.made n refl)
    (k.made m refl)
