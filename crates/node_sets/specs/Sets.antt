-- Inner contracts: sets of nodes, those with a 1 in a table. (Those of a list are `listed` of runs.) Definitions only.
use Rattle.std.specs.Prelude.{◌≡◌, ℕ, ◌<◌, Bool, length, get_or, eqb}
use mathlib.Core.List.{List, Memᴰ as Among}

unfoldable pub marked : List ℕ → ℕ → Bool
marked table x = eqb (get_or table x 0) 1

-- a mark for every node there can be
pub record AllMarked (table : List ℕ) : Type 0 where
  pub long : length table ≡ 128
  pub is : (n : ℕ) → n < 128 → get_or table n 0 ≡ 1

-- each number of a list has P
abbrev pub Each : List ℕ → (ℕ → Type 0) → Type 0
Each ts P = (t : ℕ) → Among t ts → P t
