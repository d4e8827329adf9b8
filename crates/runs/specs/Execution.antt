-- Executions of a node: the events of its tasks and optional groups, the states that they leave, what is enabled, and
-- what they assert of the flags. Definitions only.
-- A history has its newest event first: `e ∷ h` is the history h and then the event e.
use Rattle.std.specs.Prelude.{◌≡◌, ◌≢◌, Bool, cond, List, [], ◌∷◌, ℕ, T, eqb}
use Rattle.std.proofs.Math.Option.{Option, none, some}
use Rattle.runs.specs.Plan.{task, all_of, optional, Picks, Moves, pre, inc, post, Tree, Conditions, Plan, ChildOf}
use Rattle.runs.specs.Plan.{UnderOf, Child, Under}

pub data Status : Type 0 where
  waiting running done : Status
  deriving Discrete as Status-discrete

-- the status of each task, and of each optional group: done once it is skipped
abbrev pub State : Type 0
State = ℕ → Status

pub data Event : Type 0 where
  -- skip: 02's skip, of an optional group
  start finish skip : ℕ → Event

abbrev pub History : Type 0
History = List Event

abbrev pub node_of : Event → ℕ
node_of (start t) = t
node_of (finish t) = t
node_of (skip g) = g

-- the status that an event gives its node
abbrev pub status_of : Event → Status
status_of (start t) = running
status_of (finish t) = done
status_of (skip g) = done

-- the state after one event more
abbrev pub moved : State → Event → State
moved s e x = cond (eqb x (node_of e)) (status_of e) (s x)

-- the state after a history, from all waiting
unfoldable pub status_after : History → State
status_after [] x = waiting
status_after (e ∷ h) x = moved (status_after h) e x

-- 01's "complete"; 02: a skip makes its group complete
pub data CompleteOf (t : Tree) (s : State) : ℕ → Type 0 where
  task_done : {n : ℕ} → t.kind n ≡ task → s n ≡ done → CompleteOf t s n
  all_done : {n : ℕ} → t.kind n ≡ all_of → ((c : ℕ) → ChildOf t n c → CompleteOf t s c) → CompleteOf t s n
  any_done : {n : ℕ} (c : ℕ) → Picks (t.kind n) → ChildOf t n c → CompleteOf t s c → CompleteOf t s n
  skip_done : {n : ℕ} → t.kind n ≡ optional → s n ≡ done → CompleteOf t s n

-- 01's "taken": some task under b runs or is done; 02: or an optional group under b is skipped
pub record BegunOf (t : Tree) (s : State) (b : ℕ) : Type 0 where
  pub who : ℕ
  pub moves : Moves (t.kind who)
  pub beneath : UnderOf t b who
  pub begun : s who ≢ waiting

module _ (p : Plan) where
  abbrev pub Complete : State → ℕ → Type 0
  Complete s n = CompleteOf p.tree s n

  abbrev pub Begun : State → ℕ → Type 0
  Begun s b = BegunOf p.tree s b

  -- another branch of g than b is taken; a skip takes the one without tasks
  pub data Rival (s : State) (g b : ℕ) : Type 0 where
    by_branch : (c : ℕ) → Child p g c → c ≢ b → Begun s c → Rival s g b
    by_skip : p.tree.kind g ≡ optional → s g ≡ done → Rival s g b

  -- refusals 19 and 20 do not apply, judged on n alone: only choices at or below n and orders among nodes below n count
  pub record Ready (n : ℕ) (s : State) (t : ℕ) : Type 0 where
    pub choice : (g b : ℕ) → Picks (p.tree.kind g) → Under p n g → Child p g b → Under p b t → ¬ Rival s g b
    pub ordered : (g a b : ℕ) → Under p n g → Child p g a → Child p g b → T (p.order a b) → Under p b t → Complete s a

  pub record CanStart (n : ℕ) (s : State) (t : ℕ) : Type 0 where
    pub is_task : p.tree.kind t ≡ task
    pub beneath : Under p n t
    pub waits : s t ≡ waiting
    pub ready : Ready n s t

  pub record CanFinish (n : ℕ) (s : State) (t : ℕ) : Type 0 where
    pub is_task : p.tree.kind t ≡ task
    pub beneath : Under p n t
    pub runs : s t ≡ running

  -- 02: a group with a taken branch is not skipped, nor one that is skipped already
  pub record CanSkip (n : ℕ) (s : State) (g : ℕ) : Type 0 where
    pub is_optional : p.tree.kind g ≡ optional
    pub beneath : Under p n g
    pub waits : s g ≡ waiting
    pub untaken : (c : ℕ) → Child p g c → ¬ Begun s c
    pub ready : Ready n s g

  -- 01's "allowed": refusals 17 to 20, and 27, do not apply, judged on n alone
  pub data Enabled (n : ℕ) (s : State) : Event → Type 0 where
    can_start : {t : ℕ} → CanStart n s t → Enabled n s (start t)
    can_finish : {t : ℕ} → CanFinish n s t → Enabled n s (finish t)
    can_skip : {g : ℕ} → CanSkip n s g → Enabled n s (skip g)

  -- 01's "free run" of n: each event is enabled in the state that those before it leave
  pub data Execution (n : ℕ) : History → Type 0 where
    none_yet : Execution n []
    one_more : {e : Event} {h : History} → Execution n h → Enabled n (status_after h) e → Execution n (e ∷ h)

  -- 01's "whole" free run
  pub record Completed (n : ℕ) (h : History) : Type 0 where
    pub execution : Execution n h
    pub complete : Complete (status_after h) n

-- the sign of an event's precondition on a flag, and of what it asserts there: a start makes its inconditions true, a
-- finish its postconditions (01's need, hold, leaving; to touch a flag is to assert something of it); a skip has
-- neither
abbrev pub pre_of : Conditions → Event → ℕ → Option Bool
pre_of c (start t) f = c.sign pre t f
pre_of c (finish t) f = none
pre_of c (skip g) f = none

abbrev pub asserts_of : Conditions → Event → ℕ → Option Bool
asserts_of c (start t) f = c.sign inc t f
asserts_of c (finish t) f = c.sign post t f
asserts_of c (skip g) f = none

abbrev pub latest : Option Bool → Option Bool → Option Bool
latest none o = o
latest (some v) o = some v

unfoldable pub last_asserted_of : Conditions → History → ℕ → Option Bool
last_asserted_of c [] f = none
last_asserted_of c (e ∷ h) f = latest (asserts_of c e f) (last_asserted_of c h f)

module _ (p : Plan) where
  abbrev pub asserts : Event → ℕ → Option Bool
  asserts e f = asserts_of p.conditions e f

  -- 01's "last touch" of a flag: the sign that it gave; none where no event touches the flag
  abbrev pub last_asserted : History → ℕ → Option Bool
  last_asserted h f = last_asserted_of p.conditions h f

-- r is what the history h was at some time: h, or h without its last events
pub data Earlier (r : History) : History → Type 0 where
  none_later : Earlier r r
  one_later : {e : Event} {h : History} → Earlier r h → Earlier r (e ∷ h)
