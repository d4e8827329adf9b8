-- What a test comes to. Assumes nothing.
use mathlib.Core.Path.{◌≡◌}
use mathlib.Core.Logic.{◌≢◌, ◌⊎◌, inl, inr, ◌↔◌}
use mathlib.Core.Bool.{Bool, true, false, not, ◌&&◌, ◌||◌}
use Prim.Native.Nat.{ℕ}
use lib.Dec.{T, eqb, eqb→eq, eqb_refl}

pub and_tests : (a b : Bool) → (T a × T b) ↔ T (a && b)
and_tests true b = (λ x. x.1, λ t. (tt, t))
and_tests false b = (λ x. x.0, λ t. absurd t)

pub or_tests : (a b : Bool) → (T a ⊎ T b) ↔ T (a || b)
or_tests true b = (λ x. tt, λ t. inl tt)
or_tests false b = (join, inr)
  where
    join : ⊥ ⊎ T b → T b
    join (inl x) = absurd x
    join (inr x) = x

pub not_test : (a : Bool) → (¬ T a) ↔ T (not a)
not_test true = (λ k. k tt, λ t. absurd t)
not_test false = (λ k. tt, λ t x. x)

pub equal : (a b : ℕ) → T (eqb a b) ↔ (a ≡ b)
equal a b = (eqb→eq a b, λ e. rw e (eqb_refl b))

pub unequal : (a b : ℕ) → T (not (eqb a b)) ↔ (a ≢ b)
unequal a b = (
  λ t e. (not_test (eqb a b)).1 t ((equal a b).1 e),
  λ k. (not_test (eqb a b)).0 (λ t. k ((equal a b).0 t)),
)
