-- Summary information: the marks of 01's sheet, for a node and a literal (a flag f and its sign v). Definitions only.
use Rattle.std.specs.Prelude.{◌≡◌, ◌≢◌, ◌⊎◌, Bool, not, ◌∷◌, ℕ}
use Rattle.std.proofs.Math.Option.{none, some}
use Rattle.runs.specs.Plan.{task, all_of, any_of, inc, post, Plan, Child, Under, Before, Unordered}
use Rattle.runs.specs.Plan.{Concurrent}
use Rattle.runs.specs.Execution.{running, Event, History, node_of, status_after, Execution, Completed, pre_of}
use Rattle.runs.specs.Execution.{asserts, last_asserted, Earlier}

module _ (p : Plan) where
  -- in some whole free run of n; in every one
  pub record May (n : ℕ) (P : History → Type 0) : Type 0 where
    pub history : History
    pub completed : Completed p n history
    pub holds : P history

  abbrev pub Must : ℕ → (History → Type 0) → Type 0
  Must n P = (h : History) → Completed p n h → P h

  module _ (f : ℕ) (v : Bool) where
    -- external precondition, 01's "need": a task with it starts and no earlier event touched the flag
    pub record ExternalPre (h : History) : Type 0 where
      pub event : Event
      pub before : History
      pub at : Earlier (event ∷ before) h
      pub needs : pre_of p.conditions event f ≡ some v
      pub unasserted : last_asserted p before f ≡ none

    -- external postcondition, 01's "leave": the last touch makes the literal true
    abbrev pub ExternalPost : History → Type 0
    ExternalPost h = last_asserted p h f ≡ some v

    -- incondition, 01's "hold": at some time a task with it runs
    pub record Incondition (h : History) : Type 0 where
      pub who : ℕ
      pub holds : p.conditions.sign inc who f ≡ some v
      pub until : History
      pub at : Earlier until h
      pub runs : status_after until who ≡ running

    -- 01's "clash": after the history h the event e has a precondition whose opposite was asserted last, or asserts the
    -- opposite of an incondition of another running task
    pub data Clobbers (h : History) (e : Event) : Type 0 where
      precondition : pre_of p.conditions e f ≡ some v → last_asserted p h f ≡ some (not v) → Clobbers h e
      incondition : (t : ℕ) → node_of e ≢ t → p.conditions.sign inc t f ≡ some v → status_after h t ≡ running
          → asserts p e f ≡ some (not v) → Clobbers h e

    -- in some free run, whole or not
    pub record Clobbered (n : ℕ) : Type 0 where
      pub history : History
      pub event : Event
      pub execution : Execution p n (event ∷ history)
      pub clobbers : Clobbers history event

    -- 02's "leaving that flag opposite ways": of two tasks that stand under unordered children of an all_of group at or
    -- below n, one leaves the literal and the other its opposite ("both literals": `opposed_both` in
    -- proofs/Summary/Concurrent)
    pub record Opposed (n : ℕ) : Type 0 where
      pub who : ℕ
      pub other : ℕ
      pub concurrent : Concurrent p who other n
      pub leaves : p.conditions.sign post who f ≡ some v
      pub opposes : p.conditions.sign post other f ≡ some (not v)

    -- mark 6, "may clash": in some free run, or (02) by opposite leavings of two tasks that may finish together
    abbrev pub MayClobber : ℕ → Type 0
    MayClobber n = Clobbered n ⊎ Opposed n

  -- no task under b touches the flag
  abbrev pub Silent : ℕ → ℕ → Type 0
  Silent f b = (e : Event) → p.tree.kind (node_of e) ≡ task → Under p b (node_of e) → asserts p e f ≡ none

  -- mark 7, "doom", a rule: it suffices for every whole free run to fail, and is not necessary for it (an optional
  -- group never has it, for its branch without tasks has not)
  pub data MustClobber (f : ℕ) (v : Bool) : ℕ → Type 0 where
    by_any_of : {n : ℕ} → p.tree.kind n ≡ any_of → ((c : ℕ) → Child p n c → MustClobber f v c) → MustClobber f v n
    by_child : {n : ℕ} → p.tree.kind n ≡ all_of → (c : ℕ) → Child p n c → MustClobber f v c
        → ((b : ℕ) → Child p n b → Unordered p b c → Silent f b) → MustClobber f v n
    by_pair : {n : ℕ} → p.tree.kind n ≡ all_of → (c d : ℕ) → Child p n c → Child p n d → Before p d c
        → Must d (ExternalPost f (not v)) → Must c (ExternalPre f v)
        → ((b : ℕ) → Child p n b → b ≢ c → b ≢ d → ¬ Before p b d → ¬ Before p c b → Silent f b) → MustClobber f v n

-- the eight marks, in the order of a sheet's bytes
pub data Mark : Type 0 where
  may_pre must_pre may_post must_post may_inc must_inc may_clobber must_clobber : Mark

abbrev pub byte_of : Mark → ℕ
byte_of may_pre = 0
byte_of must_pre = 1
byte_of may_post = 2
byte_of must_post = 3
byte_of may_inc = 4
byte_of must_inc = 5
byte_of may_clobber = 6
byte_of must_clobber = 7

-- what each mark says
abbrev pub Marked : Plan → ℕ → ℕ → Bool → Mark → Type 0
Marked p n f v may_pre = May p n (ExternalPre p f v)
Marked p n f v must_pre = Must p n (ExternalPre p f v)
Marked p n f v may_post = May p n (ExternalPost p f v)
Marked p n f v must_post = Must p n (ExternalPost p f v)
Marked p n f v may_inc = May p n (Incondition p f v)
Marked p n f v must_inc = Must p n (Incondition p f v)
Marked p n f v may_clobber = MayClobber p f v n
Marked p n f v must_clobber = MustClobber p f v n
