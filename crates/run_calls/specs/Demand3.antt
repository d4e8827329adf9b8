-- Demand 3 over bytes: one claim over every accepted plan with a list of blocked nodes and over whole lists of calls
-- with any numbers, refused calls anywhere among them, on any bytes that have room for a state.
-- Its hypotheses are the relations that `fresh`, `start`, `finish`, `skip`, `finish_together`, `assess` and `status`
-- promise; what it says comes from the plan and the calls alone.
use Rattle.std.specs.Prelude.{ℕ, suc, ◌+◌, ◌*◌, ◌≤◌, ◌<◌, ◌≡◌, ◌≢◌, ◌⊎◌, ◌↔◌, true, false, List, [], ◌∷◌, ◌++◌, length}
use Rattle.std.specs.Prelude.{get_or}
use Rattle.std.proofs.Common.{inr}
use Rattle.plan_format.specs.Format.{node_count, is_kind}
use Rattle.plan_blocked.specs.Blocked.{plan_under, refusal_under}
use Rattle.plan_check.specs.Meaning.{plan_of, start_of}
use Rattle.runs.specs.Execution.{Complete}
use Rattle.runs.specs.Verdict.{Verdict, CLEAR, DOOMED, Judged}
use Rattle.runs.specs.Calls.{Call, World, fresh, Answered, Worked, accepted_starts}
use Rattle.runs.specs.Violations.{NoViolation, Violation}
use Rattle.run_starts.specs.Starts.{node_byte, ordinal_in}
use Rattle.run_state.specs.State.{world_of, state_refusal_under}
use Rattle.base.specs.Answers.{overlay}
use Rattle.base.specs.Bytes.{Bytes}
use Rattle.run_monitor.specs.Status as status
use Rattle.run_monitor.specs.Status.{COMPLETE, Report, Told}
use Rattle.verdict.specs.Verdict.{Answer, said, Assessed}
use Rattle.run_calls.specs.Shown.{shown_byte}
use Rattle.run_calls.specs.Lists.{Calls, ListMade}

-- what 01 works out from the plan and the calls: their returns, and the states after them
abbrev pub WorkedOut : List ℕ → List ℕ → List Call → List ℕ → World → Type 0
WorkedOut b xs cs rs a = Worked (plan_of b) (plan_under b xs) (fresh (start_of b)) cs rs a

-- the byte of the group g is 0, or, once an optional group is skipped, 2
abbrev pub GroupByte : List ℕ → List ℕ → ℕ → Type 0
GroupByte b z g = (node_byte z g ≡ 0) ⊎ ((is_kind b g 3 ≡ true) × (node_byte z g ≡ 2))

-- the bytes z show the states a: they pass all checks, the first 8 + 3N are those of a, with 0 at each group that is
-- not skipped, and each later byte is as it was in s, before fresh (`bytes` says all of it as one equation)
pub record Shows (b xs s : List ℕ) (a : World) (z : List ℕ) : Type 0 where
  pub well_formed : state_refusal_under b xs z ≡ 0
  pub states : world_of b z ≡ a
  pub bytes : z ≡ overlay (shown_byte (node_count b) a) (8 + 3 * node_count b) s
  pub groups : (g : ℕ) → g < node_count b → is_kind b g 0 ≡ false → GroupByte b z g × (ordinal_in b z g ≡ 0)
  -- the flags are in bytes; nothing is written past the states
  pub small : (i : ℕ) → i < 8 → get_or z i 0 < 256
  pub as_long : length z ≡ length s
  pub later : (i : ℕ) → 8 + 3 * node_count b ≤ i → get_or z i 0 ≡ get_or s i 0

-- a list of calls returned what 01 works out from the plan and the calls, and the bytes after it show the states worked
-- out
pub record Follows (b xs s : List ℕ) (cs : List Call) (rs : List ℕ) (z : List ℕ) : Type 0 where
  pub after : World
  pub worked : WorkedOut b xs cs rs after
  pub shown : Shows b xs s after z

-- a call c of a list, after the calls cs and before ds: what it returned and the bytes that it left are those that 01
-- works out from the plan and the calls up to it
pub record EachCall (b xs s : List ℕ) (cs : List Call) (c : Call) (ds : List Call) (rs z : List ℕ) : Type 0 where
  -- what the calls before it returned, what it returned itself, what the later ones did; the bytes after it
  pub earlier : List ℕ
  pub returned : ℕ
  pub later : List ℕ
  pub left : List ℕ
  pub returns : rs ≡ earlier ++ (returned ∷ later)
  pub up_to : ListMade b xs s (cs ++ (c ∷ [])) (earlier ++ (returned ∷ [])) left
  pub rest : Calls b xs left ds later z
  -- the states before and after it
  pub before : World
  pub after : World
  pub worked : WorkedOut b xs cs earlier before
  pub answered : Answered (plan_of b) (plan_under b xs) before c returned after
  pub shown : Shows b xs s after left

pub record Demand3Of (b xs : List ℕ) : Type 0 where
  -- every list of calls can be made, on any bytes that have room for a state, and the plan has an answer
  pub made : (s : List ℕ) → 8 + 3 * node_count b ≤ length s → (cs : List Call)
      → (rs : List ℕ) × (z : List ℕ) × ListMade b xs s cs rs z
  pub assessed : (r : Answer) × Assessed b xs r
  -- each call of a list returns what 01 works out from the plan and the calls up to it, and the bytes then show the
  -- states worked out there
  pub each : (s : List ℕ) (cs : List Call) (c : Call) (ds : List Call) (rs z : List ℕ)
      → ListMade b xs s (cs ++ (c ∷ ds)) rs z → EachCall b xs s cs c ds rs z
  -- and so for the list as a whole
  pub follows : (s : List ℕ) (cs : List Call) (rs z : List ℕ) → ListMade b xs s cs rs z → Follows b xs s cs rs z
  -- the ordinals that the bytes then have (02: places) are the positions of the accepted starts of the list, from 1: a
  -- node has k + 1 exactly if its start is in their list after k others
  pub ordinals : (s : List ℕ) (cs : List Call) (rs z : List ℕ) → ListMade b xs s cs rs z → (n : ℕ) → n < node_count b
      → (k : ℕ) → (ordinal_in b z n ≡ suc k)
      ↔ ((k < length (accepted_starts cs rs)) × (get_or (accepted_starts cs rs) k 0 ≡ n))
  -- what 01 works out is one: of one list of calls no other returns, no other states
  pub unique : {cs : List Call} {ns ms : List ℕ} {a c : World} → WorkedOut b xs cs ns a → WorkedOut b xs cs ms c
      → (ns ≡ ms) × (a ≡ c)
  -- after every list `status` says COMPLETE exactly if the root is complete in the states worked out
  pub complete : (s : List ℕ) (cs : List Call) (rs z : List ℕ) → ListMade b xs s cs rs z → (t : Report)
      → Told b xs z t → (a : World) → WorkedOut b xs cs rs a
      → (status.reported t ≡ inr COMPLETE) ↔ Complete (plan_under b xs) a.status 0
  -- the answer is the one that 01 defines
  pub answer : (r : Answer) → Assessed b xs r
      → (v : Verdict) × (said r ≡ inr v) × Judged (plan_under b xs) (start_of b) v
      × ((u : Verdict) → Judged (plan_under b xs) (start_of b) u → u ≡ v)
  -- it is CLEAR exactly if no call in any list returns 21, 22 or 26
  pub clear : (r : Answer) → Assessed b xs r
      → (said r ≡ inr CLEAR)
      ↔ ((s : List ℕ) (cs : List Call) (rs z : List ℕ) → ListMade b xs s cs rs z → NoViolation rs)
  -- if it is not, some list of calls has such a return (02: "a book that is not CLEAR has one"), on any bytes that have
  -- room for a state
  pub violated : (r : Answer) → Assessed b xs r → said r ≢ inr CLEAR → (s : List ℕ) → 8 + 3 * node_count b ≤ length s
      → (cs : List Call) × (rs : List ℕ) × (z : List ℕ) × ListMade b xs s cs rs z × Violation rs
  -- if it is DOOMED, the root is complete after no list: not in the states worked out, and `status` never says so
  pub doomed : (r : Answer) → Assessed b xs r → said r ≡ inr DOOMED
      → (s : List ℕ) (cs : List Call) (rs z : List ℕ) → ListMade b xs s cs rs z
      → ((a : World) → WorkedOut b xs cs rs a → ¬ Complete (plan_under b xs) a.status 0)
      × ((t : Report) → Told b xs z t → status.reported t ≢ inr COMPLETE)

-- the whole claim: it holds of every accepted plan with every list of blocked nodes that passes 28 and 29, the empty
-- one among them, which "is given to the answer, to fresh and to every keeper call alike" (02)
abbrev pub Demand3 : Type 0
Demand3 = (b xs : List ℕ) → Bytes b → refusal_under b xs ≡ 0 → Demand3Of b xs
