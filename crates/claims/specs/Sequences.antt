-- What `assess` and the call for a sequence answer for one plan: for a CLEAR plan 23 or a sequence, for a DOOMED one no
-- sequence (101); and the same sequence every time (109). Definitions only.
use Rattle.std.specs.Prelude.{◌≡◌, ◌≢◌, ◌⊎◌, List, [], ℕ}
use Rattle.std.proofs.Common.{inl, inr}
use Rattle.runs.specs.Verdict.{CLEAR, DOOMED}
use Rattle.verdict.specs.Verdict.{Answer, said, Assessed}
use Rattle.sequence.specs.Sequence.{SoughtOf}

pub record SequenceAgrees (a : Answer) (s : ℕ ⊎ List ℕ) : Type 0 where
  pub clear : said a ≡ inr CLEAR → (s ≡ inl 23) ⊎ ((xs : List ℕ) × (s ≡ inr xs))
  pub doomed : said a ≡ inr DOOMED → (xs : List ℕ) → s ≢ inr xs

abbrev pub SequencesAgree : Type 0
SequencesAgree =
    (b : List ℕ) (a : Answer) (s : ℕ ⊎ List ℕ) → Assessed b [] a → SoughtOf b s → SequenceAgrees a s

-- two answers for one plan are equal
abbrev pub SequencesSame : Type 0
SequencesSame = (b : List ℕ) (s t : ℕ ⊎ List ℕ) → SoughtOf b s → SoughtOf b t → s ≡ t
