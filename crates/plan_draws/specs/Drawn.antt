-- The draws of a generated plan, one after another, in 02's words (110). Definitions only.
use Rattle.std.specs.Prelude.{◌≡◌, ℕ, ◌+◌, ◌-◌, ◌/◌, ◌%◌, ◌^◌, ◌≤◌, List, [], ◌∷◌, ◌++◌}
use Rattle.base.specs.Each.{each}
use Rattle.plan_draws.specs.declared.Recipe.{Recipe}

-- 30 does not apply (02: "g is not 1 to 60 or t is not g to 60")
pub record Allowed (r : Recipe) : Type 0 where
  pub some_group : 1 ≤ r.groups
  pub few_groups : r.groups ≤ 60
  pub enough_tasks : r.groups ≤ r.tasks
  pub few_tasks : r.tasks ≤ 60

-- "A draw below k adds 2,654,435,769 to the state, wrapping at 2 to the 32nd"
abbrev pub next_state : ℕ → ℕ
next_state s = (s + 2654435769) % 2 ^ 32

-- from the state s, draws one after another: (k, v) is a draw below k that "gives (state / 65,536, whole) mod k", v
pub data DrawnFrom : ℕ → List (ℕ × ℕ) → Type 0 where
  none : {s : ℕ} → DrawnFrom s []
  more : {s k v : ℕ} {ds : List (ℕ × ℕ)} → v ≡ next_state s / 65536 % k → DrawnFrom (next_state s) ds
      → DrawnFrom s ((k, v) ∷ ds)

-- all that is drawn for a plan. Groups and tasks are counted from 0.
pub record Draws (r : Recipe) : Type 0 where
  -- of a group: its kind minus 1; of a group but the last: 1 if it comes before the next
  pub kind : ℕ → ℕ
  pub before : ℕ → ℕ
  -- of a task; 02's need sign and leaving sign are `pre` and `post`
  pub minutes : ℕ → ℕ
  pub flag : ℕ → ℕ
  pub pre : ℕ → ℕ
  pub post : ℕ → ℕ
  -- "In node order each group draws kind minus 1 below 2; each task draws minutes below 60, flag below 8, need sign and
  -- leaving sign below 2 ..  Then for each group but the last, a draw below 2"; "the state begins as the seed"
  pub drawn : DrawnFrom r.seed (
      each (λ i. (2, kind i) ∷ []) 0 r.groups
      ++ each (λ j. (60, minutes j) ∷ (8, flag j) ∷ (2, pre j) ∷ (2, post j) ∷ []) 0 r.tasks
      ++ each (λ i. (2, before i) ∷ []) 0 (r.groups - 1)
      )
