-- What the calls say to a plan's bytes and a state's bytes, by the relations that they promise: all refuse with one
-- number, or none does. Definitions only.
use Rattle.std.specs.Prelude.{ℕ, zero, suc, ◌≡◌, List, [], ◌∷◌}
use Rattle.std.proofs.Common.{inl, inr}
use Rattle.plan_check.specs.Meaning.{plan_of}
use Rattle.plan_blocked.specs.Blocked.{plan_under}
use Rattle.runs.specs.Calls.{Call, Answered}
use Rattle.verdict.specs.Verdict as verdicts
use Rattle.verdict.specs.Verdict.{Answer, Assessed}
use Rattle.summary.specs.Summary.{Summarised}
use Rattle.run_state.specs.State.{world_of}
use Rattle.run_state.specs.Fresh.{Freshened}
use Rattle.run_monitor.specs.Status.{Word, Report, reported, Told}
use Rattle.run_monitor.specs.Events.{Called}
use Rattle.run_trials.specs.Written.{PlanPieces, bytes_of}

-- a plan, a list of blocked nodes, the bytes of a state, and the refusal up to 16, or 0
pub record StateRow : Type 0 where
  pub plan : PlanPieces
  pub blocked : List ℕ
  pub state : List ℕ
  pub refusal : ℕ

-- `status` and every call that moves something refuse with r and change nothing, and `fresh` too where r is 15
pub record AllRefuse (b xs s : List ℕ) (r : ℕ) : Type 0 where
  pub status : (p : Report) → Told b xs s p → reported p ≡ inl r
  pub call : (c : Call) (n : ℕ) (z : List ℕ) → Called b xs s c n z → (n ≡ r) × (z ≡ s)
  pub room : r ≡ 15 → (n : ℕ) (z : List ℕ) → Freshened b xs s n z → (n ≡ 15) × (z ≡ s)

-- `status` says a word, and the calls that move something answer as 01 says of the states that the bytes show
pub record AllPass (b xs s : List ℕ) : Type 0 where
  pub status : (p : Report) → Told b xs s p → (w : Word) × (reported p ≡ inr w)
  pub call : (c : Call) (n : ℕ) (z : List ℕ) → Called b xs s c n z
      → Answered (plan_of b) (plan_under b xs) (world_of b s) c n (world_of b z)

abbrev pub CheckOf : List ℕ → List ℕ → List ℕ → ℕ → Type 0
CheckOf b xs s zero = AllPass b xs s
CheckOf b xs s (suc r) = AllRefuse b xs s (suc r)

abbrev pub AllChecked : List StateRow → Type 0
AllChecked [] = Unit {0}
AllChecked (c ∷ l) = CheckOf (bytes_of c.plan) c.blocked c.state c.refusal × AllChecked l

-- a plan, a list of blocked nodes, the bytes of a state, and what `status` says of it
pub record Worded : Type 0 where
  pub plan : PlanPieces
  pub blocked : List ℕ
  pub state : List ℕ
  pub word : Word

abbrev pub AllWorded : List Worded → Type 0
AllWorded [] = Unit {0}
AllWorded (c ∷ l) = ((p : Report) → Told (bytes_of c.plan) c.blocked c.state p → reported p ≡ inr c.word)
    × AllWorded l

-- a plan, a list of blocked nodes, and the refusal of 1 to 14, 28 or 29 that both meet
pub record Listing : Type 0 where
  pub plan : PlanPieces
  pub blocked : List ℕ
  pub refusal : ℕ

-- every call that takes a list refuses with r, whatever else it is given, and changes nothing
pub record RefusesAll (b xs : List ℕ) (r : ℕ) : Type 0 where
  pub assess : (a : Answer) → Assessed b xs a → verdicts.said a ≡ inl r
  pub summary : (n : ℕ) (out out' : List ℕ) (k : ℕ) → Summarised b xs n out k out' → (k ≡ r) × (out' ≡ out)
  pub fresh : (s z : List ℕ) (k : ℕ) → Freshened b xs s k z → (k ≡ r) × (z ≡ s)
  pub status : (s : List ℕ) (p : Report) → Told b xs s p → reported p ≡ inl r
  pub call : (s : List ℕ) (c : Call) (k : ℕ) (z : List ℕ) → Called b xs s c k z → (k ≡ r) × (z ≡ s)

abbrev pub AllRefused : List Listing → Type 0
AllRefused [] = Unit {0}
AllRefused (c ∷ l) = RefusesAll (bytes_of c.plan) c.blocked c.refusal × AllRefused l
