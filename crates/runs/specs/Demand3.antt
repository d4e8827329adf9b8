-- Demand 3 on the level of plans, as one claim over whole lists of calls, with any numbers and refused calls anywhere.
-- Definitions only.
use Rattle.std.specs.Prelude.{◌≡◌, ◌⊎◌, ◌↔◌, Bool, List, ℕ, suc, ◌<◌, ◌≤◌, length, get_or}
use Rattle.runs.specs.Plan.{Plan}
use Rattle.runs.specs.Execution.{waiting, done, State}
use Rattle.runs.specs.Verdict.{Verdict, Clear, Doomed, Judged}
use Rattle.runs.specs.Calls.{Call, World, Task, Optional, accepted_starts}
use Rattle.runs.specs.Violations.{Violation, CallsOn, NeverViolates, NeverCompletes}
use Rattle.runs.specs.Model.Blocked.{without}

-- Starts in the order of the list l: the ordinal of x is k + 1 exactly if x stands in l after k others, and 0 exactly
-- while x waits or is no task.
pub record Numbered (p : Plan) (l : List ℕ) (a : World) : Type 0 where
  pub counts : a.starts ≡ length l
  pub position : (x k : ℕ) → (a.ordinal x ≡ suc k) ↔ ((k < length l) × (get_or l k 0 ≡ x))
  pub unstarted : (x : ℕ) → (a.ordinal x ≡ 0) ↔ ((a.status x ≡ waiting) ⊎ (¬ Task p x))

-- x waits, or is an optional group and skipped
abbrev pub WaitsOrSkipped : Plan → ℕ → State → Type 0
WaitsOrSkipped p x s = (s x ≡ waiting) ⊎ (Optional p x × (s x ≡ done))

-- 02's "a book that is not CLEAR has one": a list of calls in which one returns 21, 22 or 26
pub record Violated (p : Plan) (S : ℕ → Bool) (F : ℕ → Bool) : Type 0 where
  pub calls : List Call
  pub returns : List ℕ
  pub after : World
  pub worked : CallsOn p S F calls returns after
  pub violation : Violation returns

pub record Demand3On (p : Plan) (S : ℕ → Bool) (F : ℕ → Bool) : Type 0 where
  -- every list of calls has its returns and the states after it, and no others
  pub worked : (cs : List Call) → (ns : List ℕ) × (a : World) × CallsOn p S F cs ns a
  pub unique : {cs : List Call} {ns ms : List ℕ} {a b : World} → CallsOn p S F cs ns a → CallsOn p S F cs ms b
      → (ns ≡ ms) × (a ≡ b)
  -- what is no task, or absent, waits, or is an optional group that stands, and skipped; a flag past the plan's keeps
  -- its start bit
  pub others : {cs : List Call} {ns : List ℕ} {a : World} → CallsOn p S F cs ns a → (x : ℕ) → ¬ Task (without p S) x
      → WaitsOrSkipped (without p S) x a.status
  pub beyond : {cs : List Call} {ns : List ℕ} {a : World} → CallsOn p S F cs ns a → (f : ℕ) → p.conditions.flags ≤ f
      → a.flag f ≡ F f
  -- a task's ordinal is the position of its start among the accepted starts of the list
  pub ordinals : {cs : List Call} {ns : List ℕ} {a : World} → CallsOn p S F cs ns a
      → Numbered p (accepted_starts cs ns) a
  -- the plan that is left has one verdict
  pub judged : (v : Verdict) × Judged (without p S) F v × ((u : Verdict) → Judged (without p S) F u → u ≡ v)
  -- CLEAR exactly if no call in any list returns 21, 22 or 26
  pub clear : Clear (without p S) F ↔ NeverViolates p S F
  -- and where it is not CLEAR, a call in some list does
  pub violated : ¬ Clear (without p S) F → Violated p S F
  -- DOOMED: the root is complete after no list
  pub doomed : Doomed (without p S) F → NeverCompletes p S F
