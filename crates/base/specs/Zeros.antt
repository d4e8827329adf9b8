-- Memory with nothing in it. Definitions only.
use Rattle.std.specs.Prelude.{◌≡◌, List, ℕ, ◌<◌, length, get_or}

-- n zeros
pub record Zeros (n : ℕ) (xs : List ℕ) : Type 0 where
  pub long : length xs ≡ n
  pub zero : (j : ℕ) → j < n → get_or xs j 0 ≡ 0
