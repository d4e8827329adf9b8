-- Tests that compute, put together. What need not be computed stands under a λ, for an argument is computed before a
-- call. Definitions only.
-- They are shut where they are used, so that laws about them find their arguments; a proof by computation names them on
-- its `unfolding` line.
use Rattle.std.specs.Prelude.{Bool, true, false, not, List, [], ◌∷◌, ℕ, zero, suc, eqb}
use Rattle.std.proofs.Math.Option.{Option, none, some}

unfoldable pub both : Bool → (Unit {0} → Bool) → Bool
both true g = g tt
both false g = false

unfoldable pub implies : Bool → (Unit {0} → Bool) → Bool
implies true g = g tt
implies false g = true

unfoldable pub negate : Bool → Bool
negate b = not b

unfoldable pub all_below : ℕ → (ℕ → Bool) → Bool
all_below zero g = true
all_below (suc m) g = both (g m) (λ u. all_below m g)

unfoldable pub same_b : Bool → Bool → Bool
same_b true v = v
same_b false v = not v

unfoldable pub same_list : List ℕ → List ℕ → Bool
same_list [] [] = true
same_list [] (y ∷ k) = false
same_list (x ∷ l) [] = false
same_list (x ∷ l) (y ∷ k) = both (eqb x y) (λ u. same_list l k)

unfoldable pub is_none : Option Bool → Bool
is_none none = true
is_none (some u) = false

unfoldable pub is_some : Option Bool → Bool → Bool
is_some none v = false
is_some (some u) v = same_b u v
