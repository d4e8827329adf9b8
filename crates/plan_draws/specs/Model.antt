-- What is drawn for a generated plan, computed: each draw by its number, and the fields that it gives. Definitions
-- only.
use Rattle.std.specs.Prelude.{ℕ, zero, suc, ◌+◌, ◌-◌, ◌*◌, ◌/◌, ◌%◌, Bool, cond, ◌&&◌, ◌==◌, nat_le}
use Rattle.base.specs.Count.{count_below}
use Rattle.plan_codes.specs.Values.{value_of}
use Rattle.plan_draws.specs.declared.Recipe.{Recipe}
use Rattle.plan_draws.specs.Drawn.{next_state}

-- the state after n draws
unfoldable pub state_after : ℕ → ℕ → ℕ
state_after s zero = s
state_after s (suc n) = next_state (state_after s n)

-- what draw n, counted from 0, gives: before the remainder, and below k
unfoldable pub given : ℕ → ℕ → ℕ
given s n = state_after s (suc n) / 65536

unfoldable pub draw : ℕ → ℕ → ℕ → ℕ
draw s n k = given s n % k

-- of the numbers below n that pass a test, number m, counted from 0
unfoldable pub pick : (ℕ → Bool) → ℕ → ℕ → ℕ
pick q zero m = 0
pick q (suc n) m = cond (q n && count_below n q == m) n (pick q n m)

module _ (r : Recipe) where
  -- group i has draw i
  unfoldable pub kind_drawn : ℕ → ℕ
  kind_drawn i = draw r.seed i 2

  -- task j has four draws
  unfoldable pub task_draw : ℕ → ℕ
  task_draw j = r.groups + 4 * j

  unfoldable pub minutes_drawn : ℕ → ℕ
  minutes_drawn j = draw r.seed (task_draw j) 60

  unfoldable pub flag_drawn : ℕ → ℕ
  flag_drawn j = draw r.seed (task_draw j + 1) 8

  unfoldable pub pre_drawn : ℕ → ℕ
  pre_drawn j = draw r.seed (task_draw j + 2) 2

  unfoldable pub post_drawn : ℕ → ℕ
  post_drawn j = draw r.seed (task_draw j + 3) 2

  -- then each group but the last has one
  unfoldable pub before_drawn : ℕ → ℕ
  before_drawn i = draw r.seed (task_draw r.tasks + i) 2

  unfoldable pub comes_before : ℕ → Bool
  comes_before i = before_drawn i == 1

  unfoldable pub order_number : ℕ
  order_number = count_below (r.groups - 1) comes_before

  -- the group, counted from 0, of order m
  unfoldable pub ordered_group : ℕ → ℕ
  ordered_group = pick comes_before (r.groups - 1)

  -- kind and minutes of node n
  unfoldable pub kind_in : ℕ → ℕ
  kind_in n = cond (n == 0) 1 (cond (nat_le n r.groups) (1 + kind_drawn (n - 1)) 0)

  unfoldable pub minutes_in : ℕ → ℕ
  minutes_in n = cond (nat_le n r.groups) 0 (minutes_drawn (n - 1 - r.groups))

  -- value of condition i: a precondition and a postcondition of each task
  unfoldable pub value_in : ℕ → ℕ
  value_in i = cond (i % 2 == 0) (value_of (flag_drawn (i / 2)) (pre_drawn (i / 2)) 0)
      (value_of (flag_drawn (i / 2)) (post_drawn (i / 2)) 2)
