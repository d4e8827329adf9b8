-- Inner contracts: the tables of draws and of orders. Definitions only.
use Rattle.std.specs.Prelude.{◌≡◌, ℕ, ◌+◌, ◌-◌, ◌*◌, ◌<◌, List, slice_index}
use Rattle.plan_draws.specs.declared.Recipe.{Recipe}
use Rattle.plan_draws.specs.Model.{given, order_number, ordered_group}

-- as the code has them
abbrev pub GROUPS : ℕ
GROUPS = 60

abbrev pub TASKS : ℕ
TASKS = 60

abbrev pub DRAWS : ℕ
DRAWS = GROUPS + 4 * TASKS + GROUPS - 1

-- the table has all draws from the seed
pub record Drew (seed : ℕ) (draws : List ℕ) : Type 0 where
  pub at : (n : ℕ) → n < DRAWS → slice_index draws n ≡ given seed n

-- so many groups come before the next, and the table has them
pub record OrdersFound (r : Recipe) (found : ℕ) (ordered : List ℕ) : Type 0 where
  pub number : found ≡ order_number r
  pub at : (m : ℕ) → m < found → slice_index ordered m ≡ ordered_group r m
