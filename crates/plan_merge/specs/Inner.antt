-- Inner contracts: what is asked of two plans whose merged bytes are written. Definitions only.
use Rattle.std.specs.Prelude.{◌≡◌, false, List, ℕ}
use Rattle.plan_rules.specs.Rules.{refusal}
use Rattle.plan_merge.specs.Model.{refused33, refused34}

-- nothing before 15 applies
pub record Mergeable (b c : List ℕ) : Type 0 where
  pub first_passes : refusal b ≡ 0
  pub second_passes : refusal c ≡ 0
  pub small : refused33 b c ≡ false
  pub alike : refused34 b c ≡ false
