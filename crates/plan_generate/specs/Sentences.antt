-- The plan of a recipe, in 02's words (110). Definitions only.
use Rattle.std.specs.Prelude.{◌≡◌, false, cond, List, [], ◌∷◌, ℕ, ◌+◌, ◌-◌, ◌/◌, ◌%◌, ◌<◌, eqb}
use Rattle.base.specs.Each.{each}
use Rattle.runs.specs.Plan.{pre, post, place_number}
use Rattle.plan_codes.specs.Values.{value_of}
use Rattle.plan_format.specs.Format.{node_count, flag_count, start_flag}
use Rattle.plan_format.specs.Pieces.{NodeIs, condition_pairs, order_pairs}
use Rattle.plan_rules.specs.Rules.{refusal}
use Rattle.plan_draws.specs.declared.Recipe.{Recipe}
use Rattle.plan_draws.specs.Drawn.{Draws}

-- SOAK, in ASCII
abbrev pub root_name : List ℕ
root_name = 83 ∷ 79 ∷ 65 ∷ 75 ∷ []

-- "G or T and the node number in three digits": the letter c (71 is G, 84 is T), then n
abbrev pub numbered_name : ℕ → ℕ → List ℕ
numbered_name c n = c ∷ (48 + n / 100) ∷ (48 + n / 10 % 10) ∷ (48 + n % 10) ∷ []

-- b is the plan of the recipe r
pub record IsGenerated (r : Recipe) (b : List ℕ) : Type 0 where
  pub draws : Draws r
  -- "Every book made passes the book rules"
  pub passes : refusal b ≡ 0
  -- "root SOAK (all-of), then g groups under it, then t tasks"
  pub nodes : node_count b ≡ 1 + r.groups + r.tasks
  pub root : NodeIs b 0 root_name 255 1 0
  pub group : (i : ℕ) → i < r.groups → NodeIs b (1 + i) (numbered_name 71 (1 + i)) 0 (1 + draws.kind i) 0
  -- "task j from 0 goes under group 1 + (j mod g)"
  pub task : (j : ℕ) → j < r.tasks
      → NodeIs b (1 + r.groups + j) (numbered_name 84 (1 + r.groups + j)) (1 + j % r.groups) 0 (draws.minutes j)
  -- "need sign and leaving sign .., both on that flag"
  pub conditions : condition_pairs b ≡ each (λ j.
      (1 + r.groups + j, value_of (draws.flag j) (draws.pre j) (place_number pre))
      ∷ (1 + r.groups + j, value_of (draws.flag j) (draws.post j) (place_number post))
      ∷ []) 0 r.tasks
  -- "for each group but the last, a draw below 2 of 1 orders it before the next"
  pub orders : order_pairs b ≡ each (λ i. cond (eqb (draws.before i) 1) ((1 + i, 2 + i) ∷ []) []) 0 (r.groups - 1)
  -- "V is 8, start flags clear"
  pub flags : flag_count b ≡ 8
  pub clear : (f : ℕ) → f < 8 → start_flag b f ≡ false
