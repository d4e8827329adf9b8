-- What a call that generates a plan answers, and every byte that it leaves (02: "Books for the soak bench", 110).
-- Definitions only.
use Rattle.std.specs.Prelude.{◌≡◌, ◌⊎◌, ◌↔◌, List, ℕ, ◌<◌, ◌≤◌, length, get_or, take}
use Rattle.std.proofs.Common.{inl, inr}
use Rattle.plan_draws.specs.declared.Recipe.{Recipe}
use Rattle.plan_draws.specs.Drawn.{Allowed}
use Rattle.plan_generate.specs.Sentences.{IsGenerated}
use Rattle.plan_generate.specs.Model.{generate_answer, generate_left}

-- the plan of the recipe is longer than the lent memory
pub record PlanLonger (r : Recipe) (out : List ℕ) : Type 0 where
  pub allowed : Allowed r
  pub plan : List ℕ
  pub is_generated : IsGenerated r plan
  pub longer : length out < length plan

-- the call with the recipe r and the lent memory out: a is its answer, out' the memory after it
pub record Generates (r : Recipe) (out : List ℕ) (a : ℕ ⊎ ℕ) (out' : List ℕ) : Type 0 where
  pub returns : a ≡ generate_answer r out
  pub leaves : out' ≡ generate_left r out
  -- "30 when g is not 1 to 60 or t is not g to 60, first of all; 15 when the output is too short", and nothing else
  pub refused_30 : (a ≡ inl 30) ↔ (¬ Allowed r)
  pub refused_15 : (a ≡ inl 15) ↔ PlanLonger r out
  pub refused : (n : ℕ) → a ≡ inl n → (n ≡ 30) ⊎ (n ≡ 15)
  pub unchanged : (n : ℕ) → a ≡ inl n → out' ≡ out
  -- the plan from the first byte on; "Its length is returned and later bytes are kept"
  pub fits : (n : ℕ) → a ≡ inr n → n ≤ length out
  pub made : (n : ℕ) → a ≡ inr n → IsGenerated r (take n out')
  pub kept : (n : ℕ) → a ≡ inr n → (i : ℕ) → n ≤ i → get_or out' i 0 ≡ get_or out i 0
  pub as_long : length out' ≡ length out
