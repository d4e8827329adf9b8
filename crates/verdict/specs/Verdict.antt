-- The answer for a plan (01: book) with a list of blocked nodes (02: struck): a refusal or a verdict. Definitions only.
use Rattle.std.specs.Prelude.{◌≡◌, ◌⊎◌, ◌↔◌, List, ℕ}
use Rattle.std.proofs.Common.{inl, inr}
use Rattle.std.specs.declared.result.Result.{Result}
use Rattle.std.specs.declared.result.Result.TheVariants.{Ok, Err}
use Rattle.answers.specs.declared.Refusal.{Refusal}
use Rattle.answers.specs.Refusals.{number}
use Rattle.base.specs.Answers.{refused_or}
use Rattle.plan_rules.specs.Rules.{refusal}
use Rattle.plan_check.specs.Meaning.{plan_of, start_of}
use Rattle.plan_blocked.specs.Blocked.{plan_under, refusal_under}
use Rattle.runs.specs.Searches.{listed}
use Rattle.runs.specs.Verdict as verdicts
use Rattle.runs.specs.Verdict.{CLEAR, DOOMED, OPEN, Judged}
use Rattle.runs.specs.Blocked.{Refused28, Refused29}
use Rattle.runs.specs.Violations.{NeverViolates, NeverCompletes}
use Rattle.runs.specs.Model.Verdicts.{verdict}
use Rattle.verdict.specs.declared.Verdict.{Verdict}
use Rattle.verdict.specs.declared.Verdict.TheVariants.{Clear, Doomed, Open}

-- 01's word for each case
abbrev pub word_of : Verdict → verdicts.Verdict
word_of Clear = CLEAR
word_of Doomed = DOOMED
word_of Open = OPEN

-- a refusal or a verdict
abbrev pub Answer : Type 0
Answer = Result Verdict Refusal

-- 01's number or word for each case
abbrev pub said : Answer → ℕ ⊎ verdicts.Verdict
said (Err e) = inl (number e)
said (Ok v) = inr (word_of v)

unfoldable pub answer_of : List ℕ → List ℕ → ℕ ⊎ verdicts.Verdict
answer_of b xs = refused_or (refusal_under b xs) (verdict (plan_under b xs) (start_of b))

pub record Assessed (b xs : List ℕ) (a : Answer) : Type 0 where
  pub returns : said a ≡ answer_of b xs
  -- of an accepted plan: 28 and 29 in 02's words
  pub refused_28 : refusal b ≡ 0 → (said a ≡ inl 28) ↔ Refused28 (plan_of b) xs
  pub refused_29 : refusal b ≡ 0 → (said a ≡ inl 29) ↔ ((¬ Refused28 (plan_of b) xs) × Refused29 (plan_of b) xs)
  -- of an accepted plan and list: 01's words for each verdict, on what is left of the plan; CLEAR exactly if no call in
  -- any list returns 21, 22 or 26; DOOMED: the root is complete after no list
  pub judged : refusal_under b xs ≡ 0 → (v : verdicts.Verdict)
      → (said a ≡ inr v) ↔ Judged (plan_under b xs) (start_of b) v
  pub clear : refusal_under b xs ≡ 0 → (said a ≡ inr CLEAR) ↔ NeverViolates (plan_of b) (listed xs) (start_of b)
  pub doomed : refusal_under b xs ≡ 0 → said a ≡ inr DOOMED → NeverCompletes (plan_of b) (listed xs) (start_of b)
