-- What a trial says of a plan's bytes, by the relations that the public calls promise. Definitions only.
use Rattle.std.specs.Prelude.{ℕ, ◌+◌, ◌*◌, ◌≡◌, Bool, List, [], ◌∷◌, ◌++◌, get_or}
use Rattle.std.proofs.Common.{inr}
use Rattle.base.specs.Answers.{overlay}
use Rattle.plan_format.specs.Format.{node_count}
use Rattle.plan_blocked.specs.Blocked.{refusal_under}
use Rattle.runs.specs.Searches.{listed}
use Rattle.runs.specs.Blocked.{MarkedUnder}
use Rattle.runs.specs.Plan.{sign_number}
use Rattle.plan_check.specs.Meaning.{plan_of}
use Rattle.runs.specs.Execution.{Status}
use Rattle.runs.specs.Summary.{Mark, byte_of}
use Rattle.runs.specs.Verdict.{Verdict}
use Rattle.runs.specs.Calls.{Call}
use Rattle.runs.specs.Numbers.{status_byte}
use Rattle.run_calls.specs.Lists.{ListMade}
use Rattle.verdict.specs.Verdict.{Answer, said, Assessed}
use Rattle.summary.specs.Summary.{Summarised}
use Rattle.run_trials.specs.Written.{PlanPieces, bytes_of, eight, twos}

-- node, flag, sign, mark
pub data Shown : Type 0 where
  shown : ℕ → ℕ → Bool → Mark → Shown

-- a plan and a list of blocked nodes, the verdict, marks that summaries show; a list of calls, what they return, and
-- the first bytes of the state after them
pub record Trial : Type 0 where
  pub plan : PlanPieces
  pub blocked : List ℕ
  pub verdict : Verdict
  pub marks : List Shown
  pub calls : List Call
  pub returned : List ℕ
  pub left : List ℕ

-- the bytes of a state: flags, then a status and then an ordinal for each node
unfoldable pub status_bytes : List Status → List ℕ
status_bytes [] = []
status_bytes (a ∷ l) = status_byte a ∷ status_bytes l

unfoldable pub state_bytes : (ℕ → Bool) → List Status → List ℕ → List ℕ
state_bytes F l os = eight F ++ status_bytes l ++ twos os

-- whatever `summary` writes for node n, its byte for the literal and the mark is 1
pub record ShownBy (b xs : List ℕ) (n f : ℕ) (v : Bool) (m : Mark) : Type 0 where
  pub marked : MarkedUnder (plan_of b) (listed xs) n f v m
  pub told : (out out' : List ℕ) → Summarised b xs n out 0 out'
      → get_or out' (8 * (2 * f + sign_number v) + byte_of m) 0 ≡ 1

abbrev pub AllShown : List ℕ → List ℕ → List Shown → Type 0
AllShown b xs [] = Unit {0}
AllShown b xs (shown n f v m ∷ l) = ShownBy b xs n f v m × AllShown b xs l

-- the plan's bytes b and the list are accepted; whatever `assess` answers for them, it is the verdict; whatever fresh
-- and the calls return and leave, on any bytes s with room, it is what the trial says, the bytes after 8 + 3N as they
-- were
pub record HoldsOf (b : List ℕ) (t : Trial) : Type 0 where
  pub accepted : refusal_under b t.blocked ≡ 0
  pub judged : (r : Answer) → Assessed b t.blocked r → said r ≡ inr t.verdict
  pub shows : AllShown b t.blocked t.marks
  pub called : (s rs z : List ℕ) → ListMade b t.blocked s t.calls rs z
      → (rs ≡ t.returned) × (z ≡ overlay (λ k. get_or t.left k 0) (8 + 3 * node_count b) s)

abbrev pub Holds : Trial → Type 0
Holds t = HoldsOf (bytes_of t.plan) t

abbrev pub AllHold : List Trial → Type 0
AllHold [] = Unit {0}
AllHold (t ∷ l) = Holds t × AllHold l
