-- Lists: the numbers of one, and one that strictly rises. Assumes nothing.
use mathlib.Core.Path.{◌≡◌, refl, sym}
use mathlib.Core.Bool.{Bool, true, false}
use mathlib.Core.List.Memᴰ.{head as here}
use mathlib.Core.List.Memᴰ.{tail as there}
use mathlib.Core.List.{List, [], ◌∷◌, Memᴰ as Among}
use Prim.Native.Nat.{ℕ, zero, suc, ◌<◌}
use native.Mathlib.Omega.{arith}
use native.Mathlib.Numerals.{add-one}
use lib.ListN.{length, get_or}
use Rattle.runs.specs.Tests.{both}
use Rattle.std.specs.List.{IsAllAdjacentAnswer}
use lib.Dec.{ltb}
use Rattle.runs.specs.Model.Monitor.{rising_b}

-- an element of a list is among its numbers
pub among_at : (l : List ℕ) (i : ℕ) → i < length l → Among (get_or l i 0) l
among_at [] i m = absurd (omega arith)
among_at (x ∷ l) zero m = here refl
among_at (x ∷ l) (suc i) m = there (among_at l i (omega arith))

-- it strictly rises: each number and the next
rising_all : (ts : List ℕ) → ((k : ℕ) → suc k < length ts → ltb (get_or ts k 0) (get_or ts (suc k) 0) ≡ true)
    → rising_b ts ≡ true
unfolding rising_b both
rising_all [] h = refl
rising_all (t ∷ []) h = refl
rising_all (t ∷ u ∷ ts) h = rw (h 0 (omega arith)) (rising_all (u ∷ ts) (λ k l. h (suc k) (omega arith)))

falling_here : (ts : List ℕ) (k : ℕ) → suc k < length ts → ltb (get_or ts k 0) (get_or ts (suc k) 0) ≡ false
    → rising_b ts ≡ false
unfolding rising_b both
falling_here [] k l h = absurd (omega arith)
falling_here (t ∷ []) k l h = absurd (omega arith)
falling_here (t ∷ u ∷ ts) zero l h = rw h
falling_here (t ∷ u ∷ ts) (suc k) l h = rw (falling_here (u ∷ ts) k (omega arith) h) (neither (ltb t u))
  where
    neither : (v : Bool) → both v (λ x. false) ≡ false
    neither true = refl
    neither false = refl

pub rising_answer : (ts : List ℕ) (r : Bool) → IsAllAdjacentAnswer (λ x y b. b ≡ ltb x y) ts r → r ≡ rising_b ts
rising_answer ts true h = sym (rising_all ts (λ k l. sym (rw (add-one k) at (h k 0 (omega arith)))))
rising_answer ts false h = sym (falling_here ts h.0 (omega (arith, h.1)) (sym (rw (add-one h.0) at (h.2 0))))
