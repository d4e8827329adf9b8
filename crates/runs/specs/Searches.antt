-- Searches that compute: some number below n, some number of a list passes a test. Definitions only.
use Rattle.std.specs.Prelude.{Bool, true, false, List, [], ◌∷◌, ℕ, zero, suc, eqb}

-- what need not be computed stands under a λ, for an argument is computed before a call
unfoldable pub either : Bool → (Unit {0} → Bool) → Bool
either true g = true
either false g = g tt

unfoldable pub any_below : ℕ → (ℕ → Bool) → Bool
any_below zero g = false
any_below (suc m) g = either (g m) (λ u. any_below m g)

unfoldable pub any_in : List ℕ → (ℕ → Bool) → Bool
any_in [] g = false
any_in (t ∷ ts) g = either (g t) (λ u. any_in ts g)

-- x is among the numbers of a list
unfoldable pub listed : List ℕ → ℕ → Bool
listed ts x = any_in ts (eqb x)
