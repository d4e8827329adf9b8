-- A recipe has one plan (110: "the same books in every lab"). Definitions only.
use Rattle.std.specs.Prelude.{◌≡◌, List, ℕ, take}
use Rattle.std.proofs.Common.{inr}
use Rattle.base.specs.Bytes.{Bytes}
use Rattle.plan_draws.specs.declared.Recipe.{Recipe}
use Rattle.plan_generate.specs.Sentences.{IsGenerated}
use Rattle.plan_generate.specs.Calls.{Generates}

-- 02's words fit no other bytes
abbrev pub OnePlan : Type 0
OnePlan = (r : Recipe) (b c : List ℕ) → Bytes b → Bytes c → IsGenerated r b → IsGenerated r c → b ≡ c

-- two calls that answer a length leave the same plan, whatever memory they are lent
abbrev pub PlansSame : Type 0
PlansSame = (r : Recipe) (out out' mem mem' : List ℕ) (n m : ℕ) → Bytes out' → Bytes mem'
    → Generates r out (inr n) out' → Generates r mem (inr m) mem' → take n out' ≡ take m mem'
