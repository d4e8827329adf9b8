-- May clobber, by children: the pair rule for all_of, some branch for any_of and optional, never for a task.
use Rattle.runs.proofs.Base.{◌≡◌, sym, ap, ◌∙◌, ◌⊎◌, inl, inr, ◌↔◌, Bool, not, some, ◌∷◌, ℕ}
use Rattle.runs.specs.Plan.{task, all_of, any_of, optional, Picks, Plan, Child, at_group}
use Rattle.runs.specs.WellFormed.{WellFormed}
use Rattle.runs.specs.Execution.{Event, skip, History, Execution, pre_of, last_asserted_of, last_asserted}
use Rattle.runs.specs.Summary.{Clobbers, precondition, incondition, Clobbered, MayClobber}
use Rattle.runs.specs.Pairs.{ClobberByPairs, in_child, unordered_pair, opposed_pair, passed_on}
use Rattle.runs.proofs.Reflect.{clash}
use Rattle.runs.proofs.Execution.{enabled_under, execution_tail, execution_last, pick_split, OneOf, through}
use Rattle.runs.proofs.Execution.{skipped, under_task, TaskExecution, begun}
use Rattle.runs.proofs.Execution.{ended, task_execution, picks_any, picks_optional, running_moved, moved_under}
use Rattle.runs.proofs.Summary.PairsComplete.{OpposedParts, two_children, one_child, opposed_parts}
use Rattle.runs.proofs.Summary.PairsComplete.{clobber_to_pairs}
use Rattle.runs.proofs.Summary.PairsSound.{passed_on_clobbers, in_child_clobbers, unordered_clobbers}

module _ (p : Plan) (w : WellFormed p) where
  module _ {n : ℕ} (kn : p.tree.kind n ≡ all_of) (f : ℕ) (v : Bool) where
    pub pairs_to_clobber : ClobberByPairs p f v n → MayClobber p f v n
    pairs_to_clobber (in_child c hc x) = in_child_clobbers p w f v c hc x
    pairs_to_clobber (unordered_pair c d hc hd un wa ma) = inl (unordered_clobbers p w kn f v c d hc hd un wa ma)
    pairs_to_clobber (opposed_pair c d hc hd un x y) = inr (record {
      who = x.who;
      other = y.who;
      concurrent = at_group kn c d hc hd un x.beneath y.beneath;
      leaves = whichever x.has;
      opposes = whichever y.has;
    })
      where
        whichever : {A : Type 0} → A ⊎ A → A
        whichever (inl a) = a
        whichever (inr a) = a
    pairs_to_clobber (passed_on c d hc hd q lv mn bt) = inl (passed_on_clobbers p w kn f v c d hc hd q lv mn bt)

    -- the pair rule of 01, with 02's pair, is exact for all_of groups
    pub clobber_all : MayClobber p f v n ↔ ClobberByPairs p f v n
    clobber_all = (clobber_to_pairs p w kn f v, pairs_to_clobber)

  -- a choice clobbers exactly if some branch does; a skip does not
  clobber_pick : {n : ℕ} (f : ℕ) (v : Bool) → Picks (p.tree.kind n) → MayClobber p f v n ↔
      ((c : ℕ) × Child p n c × MayClobber p f v c)
  clobber_pick {n} f v k = (to, λ y. in_child_clobbers p w f v y.0 y.1 y.2)
    where
      harmless : {h : History} → Clobbers p f v h (skip n) → ⊥
      harmless (precondition nd sp) = clash cc
      harmless (incondition t ne ho ru br) = clash cc

      in_run : (x : Clobbered p f v n) → OneOf p w n (x.event ∷ x.history)
          → (c : ℕ) × Child p n c × MayClobber p f v c
      in_run x (through c hc g) = (
        c,
        hc,
        inl (record { history = x.history; event = x.event; execution = g; clobbers = x.clobbers }),
      )
      in_run x (skipped kn q) = let z : x.event ≡ skip n = cc in absurd (harmless (rw z at x.clobbers))

      in_branch : OpposedParts p w f v n → (c : ℕ) × Child p n c × MayClobber p f v c
      in_branch (two_children k' y) = absurd (rw k' at k)
      in_branch (one_child c hc y) = (c, hc, inr y)

      to : MayClobber p f v n → (c : ℕ) × Child p n c × MayClobber p f v c
      to (inl x) = in_run x (pick_split p w k x.execution)
      to (inr x) = in_branch (opposed_parts p w f v x)

  pub clobber_any : {n : ℕ} (f : ℕ) (v : Bool) → p.tree.kind n ≡ any_of → MayClobber p f v n ↔
      ((c : ℕ) × Child p n c × MayClobber p f v c)
  clobber_any f v k = clobber_pick f v (picks_any k)

  pub clobber_optional : {n : ℕ} (f : ℕ) (v : Bool) → p.tree.kind n ≡ optional → MayClobber p f v n ↔
      ((c : ℕ) × Child p n c × MayClobber p f v c)
  clobber_optional f v k = clobber_pick f v (picks_optional k)

  -- no task does
  pub clobber_task : {n : ℕ} (f : ℕ) (v : Bool) → p.tree.kind n ≡ task → ¬ MayClobber p f v n
  unfolding last_asserted_of
  clobber_task {n} f v k (inr x) = no_part (opposed_parts p w f v x)
    where
      no_part : OpposedParts p w f v n → ⊥
      no_part (two_children k' y) = clash cc
      no_part (one_child c hc y) = w.parent_group c hc.not_root hc.node (ap p.tree.kind hc.up ∙ k)
  clobber_task {n} f v k (inl x) = go x.history x.event x.execution x.clobbers
    where
      fresh : {e : Event} {r : History} → TaskExecution n (e ∷ r) → pre_of p.conditions e f ≡ some v
          → last_asserted p r f ≡ some (not v) → ⊥
      fresh begun nd q = clash cc
      fresh ended nd q = clash cc

      go : (h : History) (e : Event) → Execution p n (e ∷ h) → Clobbers p f v h e → ⊥
      go h e fr (precondition nd sp) = fresh (task_execution p w k fr) nd sp
      go h e fr (incondition t ne ho ru br) = ne (sym (under_task p w k (enabled_under p (execution_last p w fr)))
          ∙ under_task p w k (moved_under p w (execution_tail p w fr) t (running_moved ru)))
