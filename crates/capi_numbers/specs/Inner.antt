-- What is asked of an answer so that its number can be told, and the number of one that is told by a word. Definitions
-- only.
use Rattle.std.specs.Prelude.{◌⊎◌, ℕ, ◌≤◌}
use Rattle.std.proofs.Common.{inl, inr}
use Rattle.std.specs.declared.result.Result.TheVariants.{Ok, Err}
use Rattle.answers.specs.Refusals.{number}
use Rattle.sequence.specs.Sequence.{Finding}

-- a refusal, or a length up to 5,136, that of the longest plan
abbrev pub Short : ℕ ⊎ ℕ → Type 0
Short (inl n) = Unit {0}
Short (inr n) = n ≤ 5136

-- the number of a finding, in which a sequence is a word already
abbrev pub finding_number : Finding → ℕ
finding_number (Err e) = number e
finding_number (Ok w) = w
