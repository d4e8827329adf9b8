-- What a verdict promises of whole lists of calls, with any numbers and refused calls anywhere. Definitions only.
use Rattle.std.specs.Prelude.{◌≡◌, ◌≢◌, ◌⊎◌, Bool, ℕ}
use mathlib.Core.List.{List, Memᴰ as Among}
use Rattle.runs.specs.Plan.{Plan}
use Rattle.runs.specs.Execution.{Complete}
use Rattle.runs.specs.Calls.{Call, World, fresh, Worked}
use Rattle.runs.specs.Model.Blocked.{without}

-- none of the returns is 21, 22 or 26
abbrev pub NoViolation : List ℕ → Type 0
NoViolation ns = (r : ℕ) → Among r ns → (r ≢ 21) × (r ≢ 22) × (r ≢ 26)

-- some return is 21, 22 or 26
pub record Violation (ns : List ℕ) : Type 0 where
  pub return : ℕ
  pub returned : Among return ns
  pub violates : (return ≡ 21) ⊎ ((return ≡ 22) ⊎ (return ≡ 26))

-- S: the blocked nodes; "one list of struck nodes that passes 28 and 29 is given to the answer, to fresh and to every
-- keeper call alike" (02). F: the flags at the start
module _ (p : Plan) (S : ℕ → Bool) (F : ℕ → Bool) where
  -- calls on p under S, from the states of fresh: what they return, and the states after them
  abbrev pub CallsOn : List Call → List ℕ → World → Type 0
  CallsOn cs ns a = Worked p (without p S) (fresh F) cs ns a

  -- no call in any list returns 21, 22 or 26 (02: "no list of start, finish and finish-together calls .. meets 21, 22
  -- or 26"; the lists have skips too)
  abbrev pub NeverViolates : Type 0
  NeverViolates = (cs : List Call) (ns : List ℕ) (a : World) → CallsOn cs ns a → NoViolation ns

  -- the root is complete after no list
  abbrev pub NeverCompletes : Type 0
  NeverCompletes = (cs : List Call) (ns : List ℕ) (a : World) → CallsOn cs ns a
      → ¬ Complete (without p S) a.status 0
