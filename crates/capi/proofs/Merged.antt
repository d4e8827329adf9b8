-- The answer of a call that merges two plans has a number, which tells it. Assumes nothing.
use mathlib.Core.Path.{◌≡◌, refl, ap}
use mathlib.Core.Logic.{◌⊎◌, inl, inr}
use mathlib.Core.List.{List}
use Prim.Native.Nat.{ℕ, ◌<◌}
use native.Mathlib.Omega.{arith}
use Rattle.plan_merge.specs.Calls.{MergeRefused, first_refused, second_refused, too_large, starts_apart, too_short}
use Rattle.plan_merge.specs.Calls.{Merges}
use Rattle.plan_rules.proofs.Limit.{refusal_limit}
use Rattle.capi_numbers.specs.Numbers.{written_number}
use Rattle.capi_numbers.specs.Inner.{Short}
use Rattle.capi.specs.Told.{MergedNumber}
use Rattle.capi.proofs.Written.{tells, length_short}

refusal_small : {b c out : List ℕ} {n : ℕ} → MergeRefused b c out n → n < 256
refusal_small {b} (first_refused x e) = omega (arith, refusal_limit b)
refusal_small {c = c} (second_refused x y e) = omega (arith, refusal_limit c)
refusal_small (too_large p l e) = omega arith
refusal_small (starts_apart p l s e) = omega arith
refusal_small (too_short p l s m e) = omega arith

module _ {b c out out' : List ℕ} where
  pub merged_short : (a : ℕ ⊎ ℕ) → Merges b c out a out' → Short a
  merged_short (inl n) m = tt
  merged_short (inr n) m = length_short n out' (omega (arith, m.fits n refl, m.as_long)) (m.made n refl).passes

  pub merged_told : {a : ℕ ⊎ ℕ} {k : ℕ} → Merges b c out a out' → k ≡ written_number a → MergedNumber b c out k out'
  merged_told {a} m e = rw e (record {
    returns = ap written_number m.returns;
    merges = rw (← tells a (λ n z. refusal_small ((m.refused n).0 z))) m;
  })
