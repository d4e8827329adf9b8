-- The answer of a call that generates a plan has a number, which tells it. Assumes nothing.
use mathlib.Core.Path.{◌≡◌, refl, ap}
use mathlib.Core.Logic.{◌⊎◌, inl, inr, ⊎_elim}
use mathlib.Core.List.{List}
use Prim.Native.Nat.{ℕ, ◌<◌}
use native.Mathlib.Omega.{arith}
use Rattle.plan_draws.specs.declared.Recipe.{Recipe}
use Rattle.plan_generate.specs.Calls.{Generates}
use Rattle.capi_numbers.specs.Numbers.{written_number}
use Rattle.capi_numbers.specs.Inner.{Short}
use Rattle.capi.specs.Told.{GeneratedNumber}
use Rattle.capi.proofs.Written.{tells, length_short}

module _ {r : Recipe} {out out' : List ℕ} where
  pub plan_short : (a : ℕ ⊎ ℕ) → Generates r out a out' → Short a
  plan_short (inl n) g = tt
  plan_short (inr n) g = length_short n out' (omega (arith, g.fits n refl, g.as_long)) (g.made n refl).passes

  small : {a : ℕ ⊎ ℕ} → Generates r out a out' → (n : ℕ) → a ≡ inl n → n < 256
  small g n e = ⊎_elim (λ z. omega (arith, z)) (λ z. omega (arith, z)) (g.refused n e)

  pub generated_told : {a : ℕ ⊎ ℕ} {k : ℕ} → Generates r out a out' → k ≡ written_number a
      → GeneratedNumber r out k out'
  generated_told {a} g e = rw e (record {
    returns = ap written_number g.returns;
    generates = rw (← tells a (small g)) g;
  })
