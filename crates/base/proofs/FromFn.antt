-- What `array::from_fn` answers. Assumes nothing.
use mathlib.Core.Path.{◌≡◌}
use mathlib.Core.Logic.{◌≢◌}
use mathlib.Core.List.{List}
use Prim.Native.Nat.{ℕ, zero, suc, ◌+◌, ◌≤◌, ◌<◌}
use native.Mathlib.Decide.{ℕ_discrete}
use native.Mathlib.Omega.{arith}
use denote.Param.Members.{Mut}
use lib.ListN.{get_or}
use Rattle.std.specs.Array.{IsFromFnResult, IsFromFnResultFrom}
use Rattle.std.specs.Fn.{Called}

-- what each call gives is what each element is, if no call changes the closure
module _ {F : Type 0} (g : Mut F (ℕ × Unit {0}) ℕ) (f : F) (ys : List ℕ) (P : ℕ → ℕ → Type 0)
    (h : (k y : ℕ) (q : F) → Called g f (k, tt) y q → (q ≡ f) × P k y) where
  from_on : (i n : ℕ) → IsFromFnResultFrom g f ys i n → (k : ℕ) → i ≤ k → k < i + n → P k (get_or ys k 0)
  from_on i zero x k a b = absurd (omega arith)
  from_on i (suc n) x k a b = at (ℕ_discrete k i)
      (λ ne. from_on (i + 1) n (rw (h i x.1 x.0 x.3).0 at x.4) k (omega (arith, ne)) (omega arith))
    where
      at : Dec (k ≡ i) → (k ≢ i → P k (get_or ys k 0)) → P k (get_or ys k 0)
      at (yes e) later = rw (e, x.2.1 0) (h i x.1 x.0 x.3).1
      at (no ne) later = later ne

pub made : {F : Type 0} {g : Mut F (ℕ × Unit {0}) ℕ} {f : F} {ys : List ℕ} {n : ℕ} (P : ℕ → ℕ → Type 0)
    → IsFromFnResult g f ys n → ((k y : ℕ) (q : F) → Called g f (k, tt) y q → (q ≡ f) × P k y)
    → (k : ℕ) → k < n → P k (get_or ys k 0)
made {g = g} {f = f} {ys = ys} {n = n} P x h k l = from_on g f ys P h 0 n x.each k (omega arith) (omega arith)
