-- 25: a list that is empty or does not strictly rise. Assumes nothing.
use mathlib.Core.Path.{◌≡◌, refl}
use mathlib.Core.Bool.{not, ◌||◌}
use mathlib.Core.List.{List, [], ◌∷◌}
use Prim.Native.Nat.{ℕ}
use native.Mathlib.Omega.{arith}
use borrow.Author.Tests.{ne_eqb}
use lib.Dec.{eqb}
use lib.ListN.{length}
use Rattle.runs.specs.Tests.{negate}
use Rattle.runs.specs.Model.Monitor.{rising_b, not_rising_b}

pub not_rising_is : (ts : List ℕ) → not_rising_b ts ≡ (eqb (length ts) 0 || not (rising_b ts))
unfolding not_rising_b negate
not_rising_is [] = refl
not_rising_is (t ∷ ts) = rw (ne_eqb (length (t ∷ ts)) 0 (λ e. omega arith))
