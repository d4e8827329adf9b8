-- The number by which an answer is told, case by case (`verdict_is`, `status_is`, `written_is`, `finding_is`), and what
-- is asked of a length (`short_is`). Assumes nothing.
use mathlib.Core.Path.{◌≡◌}
use mathlib.Core.Logic.{inr}
use Prim.Native.Nat.{ℕ}
use Rattle.std.specs.Prelude.{MatchResult, ⊤}
use Rattle.std.specs.declared.result.Result.{Result}
use Rattle.std.specs.declared.result.Result.TheVariants.{Ok, Err}
use Rattle.answers.specs.declared.Refusal.{Refusal}
use Rattle.answers.specs.Refusals.{number, told}
use Rattle.verdict.specs.Verdict as verdict
use Rattle.run_monitor.specs.Status as progress
use Rattle.sequence.specs.Sequence.{Finding}
use Rattle.capi_numbers.specs.Numbers.{verdict_number, status_number, written_number}
use Rattle.capi_numbers.specs.Inner.{Short, finding_number}

module _ {r : ℕ} where
  pub verdict_is : (a : verdict.Answer)
      → MatchResult a (λ v. r ≡ verdict_number (inr (verdict.word_of v))) (λ e. r ≡ number e)
      → r ≡ verdict_number (verdict.said a)
  verdict_is (Ok v) m = m
  verdict_is (Err e) m = m

  pub status_is : (a : progress.Report)
      → MatchResult a (λ p. r ≡ status_number (inr (progress.word_of p))) (λ e. r ≡ number e)
      → r ≡ status_number (progress.reported a)
  status_is (Ok p) m = m
  status_is (Err e) m = m

  pub written_is : (a : Result ℕ Refusal) → MatchResult a (λ n. r ≡ written_number (inr n)) (λ e. r ≡ number e)
      → r ≡ written_number (told a)
  written_is (Ok n) m = m
  written_is (Err e) m = m

  pub finding_is : (a : Finding) → MatchResult a (λ w. r ≡ w) (λ e. r ≡ number e) → r ≡ finding_number a
  finding_is (Ok w) m = m
  finding_is (Err e) m = m

pub short_is : (a : Result ℕ Refusal) → Short (told a) → MatchResult a (λ n. Short (inr n)) (λ _. ⊤)
short_is (Ok n) s = s
short_is (Err e) s = tt
