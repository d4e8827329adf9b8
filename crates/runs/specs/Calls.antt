-- The monitor's calls on a plan: refusals 17 to 22 and 25 to 27, and the states, as 01 and 02 word them, for any
-- numbers and any states, reachable or not. Definitions only.
use Rattle.std.specs.Prelude.{◌≡◌, ◌≢◌, ◌⊎◌, Bool, not, cond, ℕ, suc, ◌<◌, T, eqb}
use Rattle.std.proofs.Math.Option.{get_or, some}
use mathlib.Core.List.{List, [], ◌∷◌, ◌++◌, Memᴰ as Among}
use Rattle.runs.specs.Plan.{task, optional, Picks, inc, post, Plan, Node, Child, Under}
use Rattle.runs.specs.Execution.{Status, waiting, running, State, Event, start, finish, skip, History}
use Rattle.runs.specs.Execution.{node_of, moved, Complete, Begun, Rival, pre_of, asserts}

-- a call asks for an event of any number, or for the finishes of a list of any numbers in one step (02's
-- finish-together)
pub data Call : Type 0 where
  one : Event → Call
  together : List ℕ → Call

-- the finishes of a list of tasks, that of the first the newest
abbrev pub finishes : List ℕ → History
finishes [] = []
finishes (t ∷ ts) = finish t ∷ finishes ts

-- the events that it stands for, the newest first; the order of the finishes of one step is immaterial (`any_order` in
-- proofs/Calls/Together)
abbrev pub events : Call → History
events (one e) = e ∷ []
events (together ts) = finishes ts

-- some number of a list has P
abbrev pub SomeOf : List ℕ → (ℕ → Type 0) → Type 0
SomeOf ts P = (t : ℕ) × Among t ts × P t

-- the numbers of a list strictly rise
pub data Rising : List ℕ → Type 0 where
  empty : Rising []
  single : {t : ℕ} → Rising (t ∷ [])
  rising : {t u : ℕ} {ts : List ℕ} → t < u → Rising (u ∷ ts) → Rising (t ∷ u ∷ ts)

-- 25: the list is empty or its numbers do not strictly rise
abbrev pub NotRising : List ℕ → Type 0
NotRising ts = (ts ≡ []) ⊎ (¬ Rising ts)

-- the states that 01 works out from the book and the calls: the status of each task, the value of each flag; 02: which
-- optional groups are skipped, and the order of starts: how many there were, and the ordinal (02: place) of each node's
-- start among them, from 1, or 0 for a node not started
pub record World : Type 0 where
  pub status : State
  pub flag : ℕ → Bool
  pub starts : ℕ
  pub ordinal : ℕ → ℕ

-- at first every task waits and each flag is as its start bit says
abbrev pub fresh : (ℕ → Bool) → World
fresh F = record { status = λ x. waiting; flag = F; starts = 0; ordinal = λ x. 0 }

-- the number of starts after one event more, and the ordinals: a start takes the next one, a finish or a skip takes
-- none
abbrev pub counted : ℕ → Event → ℕ
counted n (start t) = suc n
counted n (finish t) = n
counted n (skip g) = n

abbrev pub numbered : ℕ → (ℕ → ℕ) → Event → ℕ → ℕ
numbered n o (start t) x = cond (eqb x t) (suc n) (o x)
numbered n o (finish t) x = o x
numbered n o (skip g) x = o x

-- an event moves its node on and makes its literals true; a start takes its ordinal
abbrev pub happen : Plan → World → Event → World
happen p a e = record {
  status = moved a.status e;
  flag = λ f. get_or (asserts p e f) (a.flag f);
  starts = counted a.starts e;
  ordinal = numbered a.starts a.ordinal e;
}

abbrev pub happen_all : Plan → World → History → World
happen_all p a [] = a
happen_all p a (e ∷ h) = happen p (happen_all p a h) e

-- what a start, a finish, a skip or a finish-together can be refused for, on an accepted book and a well-formed record
pub data Refusal : Type 0 where
  no_task wrong_status branch_begun order_open pre_unmet inc_broken no_optional not_rising post_opposed : Refusal
  deriving Discrete as Refusal-discrete

abbrev pub number : Refusal → ℕ
number no_task = 17
number wrong_status = 18
number branch_begun = 19
number order_open = 20
number pre_unmet = 21
number inc_broken = 22
number not_rising = 25
number post_opposed = 26
number no_optional = 27

-- the status that an event asks of its node
abbrev pub asks : Event → Status
asks (start t) = waiting
asks (finish t) = running
asks (skip g) = waiting

module _ (p : Plan) where
  pub record Task (t : ℕ) : Type 0 where
    pub node : Node p t
    pub is_task : p.tree.kind t ≡ task

  -- an optional group (02: perhaps group) of the plan
  pub record Optional (g : ℕ) : Type 0 where
    pub node : Node p g
    pub is_optional : p.tree.kind g ≡ optional

  -- 02's "at or under" a blocked node: t is no node of the plan that is left
  abbrev pub Absent : ℕ → Type 0
  Absent t = ¬ Node p t

  -- 18: the task is not waiting, not running; 02: skipping a group twice, or one with a taken branch; finishing a task
  -- at or under a blocked node
  abbrev pub WrongStatus : State → Event → Type 0
  WrongStatus s (start t) = s t ≢ asks (start t)
  WrongStatus s (finish t) = Absent t ⊎ (s t ≢ asks (finish t))
  WrongStatus s (skip g) = (s g ≢ asks (skip g)) ⊎ ((c : ℕ) × Child p g c × Begun p s c)

  -- 19: another branch of an any-of or optional group above t is taken
  pub record BranchBegun (s : State) (t : ℕ) : Type 0 where
    pub group : ℕ
    pub own : ℕ
    pub picks : Picks (p.tree.kind group)
    pub own_child : Child p group own
    pub above : Under p own t
    pub rival : Rival p s group own

  -- 20: an order applies to t, and its earlier node is not complete
  pub record OrderOpen (s : State) (t : ℕ) : Type 0 where
    pub earlier : ℕ
    pub later : ℕ
    pub ordered : T (p.order earlier later)
    pub above : Under p later t
    pub incomplete : ¬ Complete p s earlier

  -- 21: a need is unmet
  pub record PreUnmet (flag : ℕ → Bool) (e : Event) : Type 0 where
    pub on : ℕ
    pub sign : Bool
    pub needs : pre_of p.conditions e on ≡ some sign
    pub unmet : flag on ≡ not sign

  -- 22: the event would break a hold of another running task: it writes the opposite
  pub record IncBroken (s : State) (e : Event) : Type 0 where
    pub who : ℕ
    pub on : ℕ
    pub sign : Bool
    pub another : node_of e ≢ who
    pub runs : s who ≡ running
    pub holds : p.conditions.sign inc who on ≡ some sign
    pub breaks : asserts p e on ≡ some (not sign)

  -- 26: two listed tasks leave a flag opposite ways
  pub record PostOpposed (ts : List ℕ) : Type 0 where
    pub who : ℕ
    pub other : ℕ
    pub listed : Among who ts
    pub other_listed : Among other ts
    pub on : ℕ
    pub sign : Bool
    pub leaves : p.conditions.sign post who on ≡ some sign
    pub opposes : p.conditions.sign post other on ≡ some (not sign)

-- 01's table of refusals, row by row, with 02's rows: 27, a skip's number is not that of an optional group; 25 and 26.
-- For a list each row is about the whole of it, and "a hold is then tried only for tasks still running after it" (02):
-- 22 is asked of the statuses after the step. ⊥ where a row is no matter of the call.
-- p is what is left of the whole plan without the blocked nodes (02: struck), the whole plan if there are none. 17 and
-- 27 are asked of the whole plan, all else of what is left, and "a start or skip at or under one meets 19" (02).
module _ (whole p : Plan) where
  abbrev pub Applies : World → Call → Refusal → Type 0
  Applies a (one e) no_task = ¬ Task whole (node_of e)
  Applies a (one e) wrong_status = WrongStatus p a.status e
  Applies a (one e) branch_begun = Absent p (node_of e) ⊎ BranchBegun p a.status (node_of e)
  Applies a (one e) order_open = OrderOpen p a.status (node_of e)
  Applies a (one e) pre_unmet = PreUnmet p a.flag e
  Applies a (one e) inc_broken = IncBroken p a.status e
  Applies a (one e) no_optional = ¬ Optional whole (node_of e)
  Applies a (one e) not_rising = ⊥
  Applies a (one e) post_opposed = ⊥
  Applies a (together ts) no_task = SomeOf ts (λ t. ¬ Task whole t)
  Applies a (together ts) wrong_status = SomeOf ts (λ t. WrongStatus p a.status (finish t))
  Applies a (together ts) branch_begun = ⊥
  Applies a (together ts) order_open = ⊥
  Applies a (together ts) pre_unmet = ⊥
  Applies a (together ts) inc_broken = SomeOf ts (λ t. IncBroken p (happen_all p a (finishes ts)).status (finish t))
  Applies a (together ts) no_optional = ⊥
  Applies a (together ts) not_rising = NotRising ts
  Applies a (together ts) post_opposed = PostOpposed p ts

-- the checks that concern a call, in their order (02: 27 in the place of 17; 25 after 16, 26 between 18 and 22)
abbrev pub checks : Call → List Refusal
checks (one (start t)) = no_task ∷ wrong_status ∷ branch_begun ∷ order_open ∷ pre_unmet ∷ inc_broken ∷ []
checks (one (finish t)) = no_task ∷ wrong_status ∷ inc_broken ∷ []
checks (one (skip g)) = no_optional ∷ wrong_status ∷ branch_begun ∷ order_open ∷ []
checks (together ts) = not_rising ∷ no_task ∷ wrong_status ∷ post_opposed ∷ inc_broken ∷ []

-- r is the first of a list that applies; none of a list applies
abbrev pub First : (Refusal → Type 0) → Refusal → List Refusal → Type 0
First A r [] = ⊥
First A r (q ∷ l) = ((q ≡ r) × A r) ⊎ ((¬ A q) × First A r l)

abbrev pub None : (Refusal → Type 0) → List Refusal → Type 0
None A [] = Unit {0}
None A (q ∷ l) = (¬ A q) × None A l

-- One call from the states a: it returns 0 and its events happen, if no check applies; otherwise it returns the first
-- that does and changes nothing.
pub data Answered (whole p : Plan) (a : World) (c : Call) : ℕ → World → Type 0 where
  accepted : None (Applies whole p a c) (checks c) → Answered whole p a c 0 (happen_all p a (events c))
  refused : (r : Refusal) → First (Applies whole p a c) r (checks c) → Answered whole p a c (number r) a

-- A list of calls, the first call first: its returns, and the states after it.
pub data Worked (whole p : Plan) : World → List Call → List ℕ → World → Type 0 where
  no_calls : {a : World} → Worked whole p a [] [] a
  next_call : {a b z : World} {c : Call} {cs : List Call} {n : ℕ} {ns : List ℕ} → Answered whole p a c n b
      → Worked whole p b cs ns z → Worked whole p a (c ∷ cs) (n ∷ ns) z

-- The tasks of a list's accepted starts, the first start first: cs are the calls and ns what they returned.
abbrev pub started_by : Call → List ℕ
started_by (one (start t)) = t ∷ []
started_by (one (finish t)) = []
started_by (one (skip g)) = []
started_by (together ts) = []

unfoldable pub accepted_starts : List Call → List ℕ → List ℕ
accepted_starts (c ∷ cs) (n ∷ ns) = cond (eqb n 0) (started_by c) [] ++ accepted_starts cs ns
accepted_starts [] ns = []
accepted_starts (c ∷ cs) [] = []
