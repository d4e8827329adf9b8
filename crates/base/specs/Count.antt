-- How many numbers below n pass a test.
use Rattle.std.specs.Prelude.{ℕ, zero, suc, ◌+◌, Bool, true, false}

abbrev pub num : Bool → ℕ
num true = 1
num false = 0

unfoldable pub count_below : ℕ → (ℕ → Bool) → ℕ
count_below zero q = 0
count_below (suc n) q = count_below n q + num (q n)
