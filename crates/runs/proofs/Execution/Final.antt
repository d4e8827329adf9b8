-- A completed execution cannot be extended; what stands before a child is completed before the child begins.
use Rattle.runs.proofs.Base.{◌≡◌, refl, ap, ◌∙◌, ◌≢◌, ◌⊎◌, inl, inr, [], ◌∷◌, ℕ, arith, ℕ_discrete, T}
use Rattle.runs.specs.Plan.{Kind, task, all_of, any_of, optional, Picks, Plan, itself, Node, Child, Under, Before}
use Rattle.runs.specs.Plan.{direct, chain}
use Rattle.runs.specs.WellFormed.{WellFormed}
use Rattle.runs.specs.Execution.{waiting, running, done, Event, History, node_of, status_after, Complete}
use Rattle.runs.specs.Classes.{Begins}
use Rattle.runs.specs.Execution.{Begun, by_skip, Enabled}
use Rattle.runs.specs.Execution.{can_start, can_finish, can_skip, Execution, none_yet, one_more, Completed}
use Rattle.runs.proofs.Reflect.{clash}
use Rattle.runs.proofs.Plan.{child_under, Branch, branch, one_branch, from_leaves, order_child, before_child}
use Rattle.runs.proofs.Plan.{before_rank}
use Rattle.runs.proofs.Execution.Histories.{after_nil, after_other}
use Rattle.runs.proofs.Execution.Locality.{begun_local, enabled_ready, branch_of}
use Rattle.runs.proofs.Execution.Parts.{part, part_in, part_out, after_part, part_execution, part_complete}
use Rattle.runs.proofs.Execution.Parts.{execution_tail, execution_last}
use Rattle.runs.proofs.Execution.AnyOf.{begun_last, other_not_begun, nothing_done, no_rival, OneOf, through}
use Rattle.runs.proofs.Execution.AnyOf.{skipped, begins, pick_split}
use Rattle.runs.proofs.Execution.Extension.{done_stays}
use Rattle.runs.proofs.Execution.Completeness.{complete_all, picks_any, picks_optional, PickDone, branch_done}
use Rattle.runs.proofs.Execution.Completeness.{group_skipped, complete_pick, complete_task, complete_begun}
use Rattle.runs.proofs.Execution.Completeness.{complete_mono}

module _ (p : Plan) (w : WellFormed p) where
  -- once something under b has moved, what is ordered before b is complete
  order_complete : {n b : ℕ} {h : History} (a : ℕ) → Execution p n h → Child p n b → T (p.order a b) → (x : ℕ)
      → Under p b x
      → status_after h x ≢ waiting → Complete p (status_after h) a
  order_complete a none_yet hb o x u ne = absurd (ne (after_nil x))
  order_complete {n} {b} a (one_more {e = e} {h = h} f m) hb o x u ne =
      complete_mono p (status_after h) (status_after (e ∷ h)) (done_stays p w h m)
      (go (ℕ_discrete x (node_of e)) (λ ne'. order_complete a f hb o x u ne'))
    where
      here : Begins e ⊎ (status_after h (node_of e) ≡ running) → x ≡ node_of e
          → (status_after h x ≢ waiting → Complete p (status_after h) a)
          → Complete p (status_after h) a
      here (inl be) q ih = (enabled_ready p be m).ordered n a b itself (order_child p w a hb o) hb o (rw q at u)
      here (inr r) q ih = ih (λ z. clash cc)

      go : Dec (x ≡ node_of e) → (status_after h x ≢ waiting → Complete p (status_after h) a)
          → Complete p (status_after h) a
      go (yes q) ih = here (begins p w m) q ih
      go (no k) ih = ih (λ z. ne (after_other e h x k ∙ z))

  -- once b has begun, all that stands before b is complete
  pub before_complete : {n a b : ℕ} {h : History} → Execution p n h → Child p n b → Before p a b
      → Begun p (status_after h) b → Complete p (status_after h) a
  before_complete f hb (direct {a = a} o) t = order_complete a f hb o t.who t.beneath t.begun
  before_complete f hb (chain {a = a} o q) t =
      let d = before_complete f hb q t in
      let hb' = before_child p w hb q in
      let t' = complete_begun p w hb'.not_root hb'.node d in
      order_complete a f hb' o t'.who t'.beneath t'.begun

  -- nothing is allowed under a complete node
  pub under_task : {n t : ℕ} → p.tree.kind n ≡ task → Under p n t → n ≡ t
  under_task {n} {t} k u = go (branch p u)
    where
      go : (n ≡ t) ⊎ Branch p n t → n ≡ t
      go (inl e) = e
      go (inr b) = absurd (w.parent_group b.via b.child.not_root b.child.node
          (ap p.tree.kind b.child.up ∙ k))

  abbrev pub Final : ℕ → Type 0
  Final n = (e : Event) (h : History) → Execution p n (e ∷ h) → Complete p (status_after h) n → ⊥

  final_task : (n : ℕ) → p.tree.kind n ≡ task → Final n
  final_task n k e h f d = go (execution_last p w f) (complete_task p k d)
    where
      go : {e : Event} → Enabled p n (status_after h) e → status_after h n ≡ done → ⊥
      go (can_start {t = t} s) q = let x : n ≡ t = under_task k s.beneath in
          let y : status_after h t ≡ waiting = s.waits in
          clash cc
      go (can_finish {t = t} s) q = let x : n ≡ t = under_task k s.beneath in
          let y : status_after h t ≡ running = s.runs in
          clash cc
      go (can_skip {g = g} s) q =
          let x : n ≡ g = under_task k s.beneath in let y : status_after h g ≡ waiting = s.waits in
          clash cc

  final_all : (n : ℕ) → p.tree.kind n ≡ all_of → ((c : ℕ) → Child p n c → Final c) → Final n
  final_all n k ih e h f d =
      let b : Branch p n (node_of e) = branch_of p w (status_after h) k (execution_last p w f) in
      ih b.via b.child e (part p w b.via h)
      (rw (part_in p w b.via e h b.beneath) at (part_execution p w (child_under p b.child) f))
      ((part_complete p w b.via h).0 (complete_all p k d b.via b.child))

  final_pick : (n : ℕ) → Picks (p.tree.kind n) → ((c : ℕ) → Child p n c → Final c) → Final n
  final_pick n k ih e h f d = go (complete_pick p k d) (pick_split p w k f)
    where
      at : (b : ℕ) → Child p n b → Execution p b (e ∷ h) → (c : ℕ) → Child p n c → Complete p (status_after h) c
          → Dec (c ≡ b) → ⊥
      at b hb fb c hc dc (yes q) = ih b hb e h fb (rw q at dc)
      at b hb fb c hc dc (no ne) = other_not_begun p w hc hb ne (execution_tail p w fb)
          (complete_begun p w hc.not_root hc.node dc)

      go : PickDone p (status_after h) n → OneOf p w n (e ∷ h) → ⊥
      go (branch_done c hc dc) (through b hb fb) = at b hb fb c hc dc (ℕ_discrete c b)
      go (group_skipped kn dn) (through b hb fb) = no_rival p w hb (execution_tail p w fb) (by_skip kn dn)
      go x (skipped kn q) = let z : h ≡ [] = cc in nothing_done p w (rw z at x)

  -- a completed execution of a node cannot be extended
  pub final : (n : ℕ) → Node p n → Final n
  final = from_leaves p w Final step
    where
      step : (n : ℕ) → Node p n → ((c : ℕ) → Child p n c → Final c) → Final n
      step n l ih = go (p.tree.kind n) refl
        where
          go : (k : Kind) → p.tree.kind n ≡ k → Final n
          go task k = final_task n k
          go all_of k = final_all n k ih
          go any_of k = final_pick n (picks_any k) ih
          go optional k = final_pick n (picks_optional k) ih

  -- if something of a history falls under c, c has begun
  pub part_begun : {n c : ℕ} {e : Event} {k : History} (h : History) → Under p n c → Execution p n h
      → part p w c h ≡ e ∷ k → Begun p (status_after h) c
  part_begun {n} {c} h u f q = begun_local p (status_after (part p w c h)) (status_after h) (after_part p w c h)
      (rw q (begun_last p w (rw q at (part_execution p w u f))))

  -- an event under a comes next: nothing under what stands after a has happened
  pub apart : {n a b : ℕ} {e : Event} {h : History} → Execution p n (e ∷ h) → Child p n b → Before p a b
      → Under p a (node_of e) → part p w b h ≡ []
  apart {n} {a} {b} {e} {h} f hb q u = go (part p w b h) refl
    where
      ha : Child p n a
      ha = before_child p w hb q

      go : (l : History) → part p w b h ≡ l → part p w b h ≡ []
      go [] r = r
      go (x ∷ l) r = absurd (final a ha.node e (part p w a h)
          (rw (part_in p w a e h u) at (part_execution p w (child_under p ha) f))
          ((part_complete p w a h).0 (before_complete (execution_tail p w f) hb q
          (part_begun h (child_under p hb) (execution_tail p w f) r))))

  -- an event under c comes next: what stands before c is completed
  pub completed_before : {n a c : ℕ} (e : Event) (h : History) → Child p n c → Execution p n (e ∷ h)
      → Under p c (node_of e) → Before p a c
      → Completed p a (part p w a h)
  completed_before {n} {a} {c} e h hc fr u q =
      let ha : Child p n a = before_child p w hc q in
      let ne : ¬ Under p a (node_of e) =
      λ x. omega (arith, before_rank p w q, ap w.rank (one_branch p w ha hc x u)) in
      let took : Begun p (status_after (e ∷ h)) c = part_begun (e ∷ h) (child_under p hc) fr (part_in p w c e h u) in
      record {
        execution = part_execution p w (child_under p ha) (execution_tail p w fr);
        complete = rw (part_out p w a e h ne) at ((part_complete p w a (e ∷ h)).0 (before_complete fr hc q took));
      }
