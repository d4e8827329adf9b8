-- Decomposition, choices: an execution of the group is empty, or one of a single branch, or the skip of an optional
-- group alone.
use Rattle.runs.proofs.Base.{◌≡◌, refl, sym, ap, ◌∙◌, ◌≢◌, ◌⊎◌, inl, inr, ◌↔◌, [], ◌∷◌, ℕ, arith, ℕ_discrete, T}
use Rattle.runs.specs.Plan.{any_of, optional, Picks, Plan, itself, Child, Under}
use Rattle.runs.specs.WellFormed.{WellFormed}
use Rattle.runs.specs.Execution.{waiting, running, done, State, Event, start, finish, skip, History, node_of}
use Rattle.runs.specs.Execution.{status_of, status_after, any_done, skip_done, Complete, Begun, Rival}
use Rattle.runs.specs.Classes.{Begins}
use Rattle.runs.specs.Execution.{by_branch, by_skip, Enabled, can_start, can_finish, can_skip, Execution}
use Rattle.runs.specs.Execution.{none_yet, one_more, Completed}
use Rattle.runs.proofs.Reflect.{clash}
use Rattle.runs.proofs.Plan.{child_under, Branch, branch, one_branch, under_le, child_lt}
use Rattle.runs.proofs.Execution.Histories.{after_nil, after_same, after_other}
use Rattle.runs.proofs.Execution.Locality.{enabled_under, enabled_of_kind, enabled_moves, enabled_down}
use Rattle.runs.proofs.Execution.Locality.{enabled_ready, enabled_up, own_ready, choice_event}
use Rattle.runs.proofs.Execution.Completeness.{PickDone, picks_any, picks_optional, done_moved, branch_done}
use Rattle.runs.proofs.Execution.Completeness.{group_skipped, complete_begun, complete_pick}

module _ (p : Plan) (w : WellFormed p) where
  moved_not_waiting : (e : Event) → status_of e ≢ waiting
  moved_not_waiting (start t) q = clash cc
  moved_not_waiting (finish t) q = clash cc
  moved_not_waiting (skip g) q = clash cc

  -- an execution of c leaves what is not under c waiting
  pub execution_outside : {c : ℕ} {h : History} → Execution p c h → (x : ℕ) → ¬ Under p c x → status_after h x ≡ waiting
  unfolding status_after
  execution_outside none_yet x k = refl
  execution_outside (one_more {e = e} {h = h} f m) x k = after_other e h x (λ q. k (rw q (enabled_under p m)))
      ∙ execution_outside f x k

  -- the last event's node has begun
  pub begun_last : {n : ℕ} {e : Event} {h : History} → Execution p n (e ∷ h) → Begun p (status_after (e ∷ h)) n
  begun_last {n} {e} {h} (one_more f m) = record {
    who = node_of e;
    moves = enabled_moves p m;
    beneath = enabled_under p m;
    begun = λ q. moved_not_waiting e (sym (after_same e h) ∙ q);
  }

  -- an execution of c does not begin another child of n
  pub other_not_begun : {n b c : ℕ} {h : History} → Child p n b → Child p n c → b ≢ c → Execution p c h
      → ¬ Begun p (status_after h) b
  other_not_begun hb hc ne f t = t.begun (execution_outside f t.who (λ u. ne (one_branch p w hb hc t.beneath u)))

  -- no orders among the children of a choice
  no_order : {n c : ℕ} (a : ℕ) → Picks (p.tree.kind n) → Child p n c → T (p.order a c) → ⊥
  no_order {n} {c} a k hc o = let (g, kg, ha, hc') = w.order_group a c o in
      let same : n ≡ g = sym hc.up ∙ hc'.up in rw (same, kg) at k

  pub nothing_begun : {n : ℕ} → Begun p (status_after []) n → ⊥
  unfolding status_after
  nothing_begun t = t.begun refl

  -- and no choice is complete at first
  pub nothing_done : {n : ℕ} → PickDone p (status_after []) n → ⊥
  nothing_done (branch_done c hc d) = nothing_begun (complete_begun p w hc.not_root hc.node d)
  nothing_done {n} (group_skipped k d) = done_moved d (after_nil n)

  -- no branch rivals the one that runs, nor is the group skipped
  pub no_rival : {n c : ℕ} {h : History} → Child p n c → Execution p c h → ¬ Rival p (status_after h) n c
  no_rival hc f (by_branch b hb ne t) = other_not_begun hb hc ne f t
  no_rival {n} hc f (by_skip k d) =
      done_moved d (execution_outside f n (λ u. omega (arith, child_lt p w hc, under_le p w u)))

  pub pick_join : {n c : ℕ} {h : History} → Picks (p.tree.kind n) → Child p n c → Execution p c h → Execution p n h
  pick_join k hc none_yet = none_yet
  pick_join {n} {c} k hc (one_more {e = e} {h = h} f m) = one_more (pick_join k hc f)
      (enabled_up p w (status_after h) hc m
      (λ be. record { choice = λ k'. no_rival hc f; ordered = λ a ha o. absurd (no_order a k hc o) }))

  -- the skip of an optional group, alone, is a completed execution of the group
  pub skip_completed : {n : ℕ} → p.tree.kind n ≡ optional → Completed p n (skip n ∷ [])
  skip_completed {n} k = record {
    execution = one_more none_yet (can_skip record {
      is_optional = k;
      beneath = itself;
      waits = after_nil n;
      untaken = λ c hc. nothing_begun;
      ready = own_ready p w (status_after []) n;
    });
    complete = skip_done k (after_same (skip n) []);
  }

  -- the branch that has begun, the one without tasks too
  pub data OneOf (n : ℕ) (h : History) : Type 0 where
    through : (c : ℕ) → Child p n c → Execution p c h → OneOf n h
    skipped : p.tree.kind n ≡ optional → h ≡ skip n ∷ [] → OneOf n h

  -- an event begins, or its task runs
  pub begins : {n : ℕ} {s : State} {e : Event} → Enabled p n s e → Begins e ⊎ (s (node_of e) ≡ running)
  begins (can_start m) = inl tt
  begins (can_finish m) = inr m.runs
  begins (can_skip m) = inl tt

  -- nothing follows the skip of an optional group
  skip_ends : {n : ℕ} {e : Event} → p.tree.kind n ≡ optional → ¬ Enabled p n (status_after (skip n ∷ [])) e
  skip_ends {n} {e} k m = go (branch p (enabled_under p m))
    where
      is_done : status_after (skip n ∷ []) n ≡ done
      is_done = after_same (skip n) []

      again : Enabled p n (status_after (skip n ∷ [])) (skip n) → ⊥
      again (can_skip s) = done_moved is_done s.waits

      inside : Branch p n (node_of e) → Begins e ⊎ (status_after (skip n ∷ []) (node_of e) ≡ running) → ⊥
      inside b (inl be) = (enabled_ready p be m).choice n b.via (picks_optional k) itself b.child b.beneath
          (by_skip k is_done)
      inside b (inr busy) =
          let other : node_of e ≢ n = λ q. omega (arith, q, child_lt p w b.child, under_le p w b.beneath) in
          let idle : status_after (skip n ∷ []) (node_of e) ≡ waiting = after_other (skip n) [] (node_of e) other
          ∙ after_nil (node_of e) in
          clash cc

      go : (n ≡ node_of e) ⊎ Branch p n (node_of e) → ⊥
      go (inl q) = again (rw (choice_event p w e (picks_optional k) (enabled_of_kind p m) q).1 at m)
      go (inr b) = inside b (begins m)

  any_step : {n : ℕ} {e e' : Event} {h : History} → Picks (p.tree.kind n) → Enabled p n (status_after (e' ∷ h)) e
      → OneOf n (e' ∷ h) → OneOf n (e ∷ e' ∷ h)
  any_step {n} {e} {e'} {h} k m (through c hc f) = go (branch p (enabled_under p m))
    where
      not_other : (d : ℕ) → Child p n d → Under p d (node_of e) → d ≢ c
          → Begins e ⊎ (status_after (e' ∷ h) (node_of e) ≡ running) → ⊥
      not_other d hd u ne (inl be) = (enabled_ready p be m).choice n d k itself hd u
          (by_branch c hc (λ q. ne (sym q)) (begun_last f))
      not_other d hd u ne (inr busy) =
          let idle : status_after (e' ∷ h) (node_of e) ≡ waiting =
          execution_outside f (node_of e) (λ v. ne (one_branch p w hd hc u v)) in
          clash cc

      same : (b : Branch p n (node_of e)) → Dec (b.via ≡ c) → OneOf n (e ∷ e' ∷ h)
      same b (yes q) = through c hc (one_more f
          (enabled_down p (status_after (e' ∷ h)) (child_under p hc) (rw q at b.beneath) m))
      same b (no ne) = absurd (not_other b.via b.child b.beneath ne (begins m))

      not_skipped : Enabled p n (status_after (e' ∷ h)) (skip n) → ⊥
      not_skipped (can_skip s) = s.untaken c hc (begun_last f)

      go : (n ≡ node_of e) ⊎ Branch p n (node_of e) → OneOf n (e ∷ e' ∷ h)
      go (inl q) = absurd (not_skipped (rw (choice_event p w e k (enabled_of_kind p m) q).1 at m))
      go (inr b) = same b (ℕ_discrete b.via c)
  any_step k m (skipped kn q) = absurd (skip_ends kn (rw q at m))

  pub pick_split : {n : ℕ} {e : Event} {h : History} → Picks (p.tree.kind n) → Execution p n (e ∷ h) → OneOf n (e ∷ h)
  pick_split {n} {e} {h = []} k (one_more f m) = go (branch p (enabled_under p m))
    where
      go : (n ≡ node_of e) ⊎ Branch p n (node_of e) → OneOf n (e ∷ [])
      go (inl q) = let (kn, z) = choice_event p w e k (enabled_of_kind p m) q in skipped kn (ap (λ x. x ∷ []) z)
      go (inr b) = through b.via b.child
          (one_more none_yet (enabled_down p (status_after []) (child_under p b.child) b.beneath m))
  pick_split {n} {e} {h = e' ∷ h} k (one_more f m) = any_step k m (pick_split k f)

  -- a history is an execution of a choice exactly if it is empty or an execution of one branch, or the skip alone
  pub pick_execution : {n : ℕ} (h : History) → Picks (p.tree.kind n) → Execution p n h ↔ ((h ≡ []) ⊎ OneOf n h)
  pick_execution {n} h k = (to h, from h)
    where
      to : (h : History) → Execution p n h → (h ≡ []) ⊎ OneOf n h
      to [] f = inl refl
      to (e ∷ h) f = inr (pick_split k f)

      from : (h : History) → (h ≡ []) ⊎ OneOf n h → Execution p n h
      from h (inl q) = rw q none_yet
      from h (inr (through c hc f)) = pick_join k hc f
      from h (inr (skipped kn q)) = rw q (skip_completed kn).execution

  pub data CompletedOf (n : ℕ) (h : History) : Type 0 where
    completed_through : (c : ℕ) → Child p n c → Completed p c h → CompletedOf n h
    completed_skipped : p.tree.kind n ≡ optional → h ≡ skip n ∷ [] → CompletedOf n h

  -- it is completed exactly if it is a completed execution of one branch, or the skip alone
  pub pick_completed : {n : ℕ} (h : History) → Picks (p.tree.kind n) → Completed p n h ↔ CompletedOf n h
  pick_completed {n} h k = (λ x. to h x.execution (complete_pick p k x.complete), from)
    where
      from : CompletedOf n h → Completed p n h
      from (completed_through c hc x) =
          record { execution = pick_join k hc x.execution; complete = any_done c k hc x.complete }
      from (completed_skipped kn q) = rw q (skip_completed kn)

      to : (h : History) → Execution p n h → PickDone p (status_after h) n → CompletedOf n h
      to [] f d = absurd (nothing_done d)
      to (e ∷ h) f d = go (pick_split k f) d
        where
          same : (c : ℕ) → Child p n c → Complete p (status_after (e ∷ h)) c → (b : ℕ) → Child p n b
              → Execution p b (e ∷ h) → Dec (c ≡ b)
              → CompletedOf n (e ∷ h)
          same c hc d b hb fb (yes q) = completed_through c hc (record { execution = rw q fb; complete = d })
          same c hc d b hb fb (no ne) = absurd
              (other_not_begun hc hb ne fb (complete_begun p w hc.not_root hc.node d))

          go : OneOf n (e ∷ h) → PickDone p (status_after (e ∷ h)) n → CompletedOf n (e ∷ h)
          go (through b hb fb) (branch_done c hc d) = same c hc d b hb fb (ℕ_discrete c b)
          go (through b hb fb) (group_skipped kn d) = absurd (no_rival hb fb (by_skip kn d))
          go (skipped kn q) d = completed_skipped kn q

  -- the same for any_of, with the branch at hand
  pub any_split : {n : ℕ} {e : Event} {h : History} → p.tree.kind n ≡ any_of → Execution p n (e ∷ h)
      → (c : ℕ) × Child p n c × Execution p c (e ∷ h)
  any_split {n} {e} {h} k f = go (pick_split (picks_any k) f)
    where
      go : OneOf n (e ∷ h) → (c : ℕ) × Child p n c × Execution p c (e ∷ h)
      go (through c hc fc) = (c, hc, fc)
      go (skipped kn q) = clash cc

  pub any_completed : {n : ℕ} {h : History} → p.tree.kind n ≡ any_of → Completed p n h
      → (c : ℕ) × Child p n c × Completed p c h
  any_completed {n} {h} k x = go ((pick_completed h (picks_any k)).0 x)
    where
      go : CompletedOf n h → (c : ℕ) × Child p n c × Completed p c h
      go (completed_through c hc wc) = (c, hc, wc)
      go (completed_skipped kn q) = clash cc

  pub completed_pick : {n c : ℕ} {h : History} → Picks (p.tree.kind n) → Child p n c → Completed p c h
      → Completed p n h
  completed_pick {c = c} {h = h} k hc x = (pick_completed h k).1 (completed_through c hc x)
