-- Plain decimals, computed. Definitions only.
use Rattle.std.specs.Prelude.{ℕ, zero, suc, ◌+◌, ◌/◌, ◌%◌, List, [], ◌∷◌, ◌++◌}

-- the digits of a number that is not 0; of 0 none
abbrev pub unless_zero : ℕ → (ℕ → List ℕ) → List ℕ
unless_zero zero f = []
unless_zero (suc n) f = f (suc n)

-- the digits of n / 10, where that is not 0, and the last digit (48 is the digit 0); k is the number of digits that are
-- worked out
unfoldable pub decimal_by : ℕ → ℕ → List ℕ
decimal_by zero n = []
decimal_by (suc k) n = unless_zero (n / 10) (decimal_by k) ++ ((48 + n % 10) ∷ [])

-- n + 1 digits are enough
unfoldable pub decimal : ℕ → List ℕ
decimal n = decimal_by (suc n) n
