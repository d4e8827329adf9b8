-- Demand 3 holds of every well-formed plan, whatever flags are set at the start; and the same for what computes.
use Rattle.runs.proofs.Base.{◌≡◌, refl, sym, ap, ◌∙◌, ◌≢◌, ◌⊎◌, inl, inr, ◌↔◌, Bool, Option, none, some, List}
use Rattle.runs.proofs.Base.{[], ◌∷◌, Among, ℕ, ◌≤◌, arith}
use Rattle.runs.specs.Plan.{Kind, task, all_of, any_of, optional, Moves, Place, inc, post, Plan, Node}
use Rattle.runs.specs.WellFormed.{WellFormed}
use Rattle.runs.specs.Execution.{Status, waiting, running, done, Event, start, finish, skip, History, status_after}
use Rattle.runs.specs.Execution.{Complete, last_asserted_of, asserts, Execution, last_asserted}
use Rattle.runs.specs.Verdict.{Clear, Doomed}
use Rattle.runs.specs.Calls.{Call, World, fresh, Refusal, pre_unmet, inc_broken, post_opposed, number, Task}
use Rattle.runs.specs.Calls.{Optional}
use Rattle.runs.specs.Demand3.{WaitsOrSkipped, Demand3On}
use Rattle.runs.specs.Violations.{CallsOn, NoViolation, Violation}
use Rattle.runs.specs.Branches.{Blocks}
use Rattle.runs.specs.Model.Blocked.{without}
use Rattle.runs.specs.Model.Monitor.{returns, states}
use Rattle.runs.specs.Model.Verdicts.{verdict}
use Rattle.runs.proofs.Plan.{under_node}
use Rattle.runs.proofs.Execution.{done_moved, running_moved, moved_moves, running_task, moved_under}
use Rattle.runs.proofs.Verdict.Exact.{verdict_exact}
use Rattle.runs.proofs.Calls.Accepted.{flat, FirstViolation, accepted_execution, clear_no_first_violation}
use Rattle.runs.proofs.Calls.Accepted.{clear_or_first_violation, doomed_incomplete}
use Rattle.runs.proofs.Calls.First.{worked, worked_only}
use Rattle.runs.proofs.Calls.Lists.{ViolatingList, Reached, reaches, violating_list, list_violates}
use Rattle.runs.proofs.Calls.Numbered.{worked_numbered, fresh_numbered}
use Rattle.runs.proofs.Calls.Rows.{LeftOf, Violating}
use Rattle.runs.proofs.Calls.Violation.{flag_after}
use Rattle.runs.proofs.Blocked.Standing.{without_left}
use Rattle.runs.proofs.Blocked.Branches.{blocked_well_formed}

module _ (whole p : Plan) (part : LeftOf whole p) (w : WellFormed p) (F : ℕ → Bool) where
  never_in : (cs : List Call) → Clear p F → NoViolation (returns whole p (fresh F) cs)
  never_in cs c r x = (
    λ z. hit pre_unmet (inl refl) (rw z at x),
    λ z. hit inc_broken (inr (inl refl)) (rw z at x),
    λ z. hit post_opposed (inr (inr refl)) (rw z at x),
  )
    where
      hit : (q : Refusal) → Violating q → Among (number q) (returns whole p (fresh F) cs) → ⊥
      hit q v y = clear_no_first_violation p w F c
          (list_violates whole p part w F (record { calls = cs; refusal = q; violating = v; hit = y }))

  -- CLEAR exactly if no call in any list returns 21, 22 or 26
  pub clear_exact : Clear p F ↔ ((cs : List Call) → NoViolation (returns whole p (fresh F) cs))
  clear_exact = (λ c cs. never_in cs c, λ g. from g (clear_or_first_violation p w F))
    where
      no_list : ((cs : List Call) → NoViolation (returns whole p (fresh F) cs)) → ¬ ViolatingList whole p F
      no_list g x = at x.violating
        where
          at : Violating x.refusal → ⊥
          at (inl q) = (g x.calls (number x.refusal) x.hit).0 (ap number q)
          at (inr (inl q)) = (g x.calls (number x.refusal) x.hit).1 (ap number q)
          at (inr (inr q)) = (g x.calls (number x.refusal) x.hit).2 (ap number q)

      from : ((cs : List Call) → NoViolation (returns whole p (fresh F) cs))
          → Clear p F ⊎ FirstViolation p F → Clear p F
      from g (inl c) = c
      from g (inr x) = absurd (no_list g (violating_list whole p part w F x))

  -- and where it is not CLEAR, a call in some list does
  pub violated : ¬ Clear p F → (cs : List Call) × Violation (returns whole p (fresh F) cs)
  violated k = from (clear_or_first_violation p w F)
    where
      number_of : (r : Refusal) → Violating r → (number r ≡ 21) ⊎ ((number r ≡ 22) ⊎ (number r ≡ 26))
      number_of r (inl q) = inl (ap number q)
      number_of r (inr (inl q)) = inr (inl (ap number q))
      number_of r (inr (inr q)) = inr (inr (ap number q))

      from : Clear p F ⊎ FirstViolation p F → (cs : List Call) × Violation (returns whole p (fresh F) cs)
      from (inl c) = absurd (k c)
      from (inr x) = let y = violating_list whole p part w F x in (
        y.calls,
        record {
          return = number y.refusal;
          returned = y.hit;
          violates = number_of y.refusal y.violating;
        },
      )

  -- DOOMED: the root is complete after no list
  pub doomed_never_complete : Doomed p F → (cs : List Call) → ¬ Complete p (states whole p (fresh F) cs).status 0
  doomed_never_complete d cs = go (states whole p (fresh F) cs) (reaches whole p part w F cs)
    where
      go : (b : World) → Reached p F b → ¬ Complete p b.status 0
      go b x = rw x.same (doomed_incomplete p w F d x.accepted)

  -- what is no task of the plan waits, groups and numbers past the nodes, but for the optional groups that are skipped
  pub others_wait : (cs : List Call) (x : ℕ) → ¬ Task p x → WaitsOrSkipped p x (states whole p (fresh F) cs).status
  others_wait cs x n = go (states whole p (fresh F) cs) (reaches whole p part w F cs)
    where
      go : (b : World) → Reached p F b → WaitsOrSkipped p x b.status
      go b g = rw g.same (at (status_after h x) refl)
        where
          h : History
          h = flat g.calls

          f : Execution p 0 h
          f = accepted_execution p w F g.accepted

          is_node : status_after h x ≢ waiting → Node p x
          is_node k = under_node p w.root_node (moved_under p w f x k)

          skipped : (kd : Kind) → p.tree.kind x ≡ kd → Moves kd → Node p x → Optional p x
          skipped task kx m l = absurd (n (record { node = l; is_task = kx }))
          skipped all_of kx m l = absurd m
          skipped any_of kx m l = absurd m
          skipped optional kx m l = record { node = l; is_optional = kx }

          at : (s : Status) → status_after h x ≡ s → WaitsOrSkipped p x (status_after h)
          at waiting q = inl q
          at running q = absurd (n (record { node = is_node (running_moved q); is_task = running_task p w f x q }))
          at done q =
              let k = done_moved q in inr (skipped (p.tree.kind x) refl (moved_moves p w f x k) (is_node k), q)

  -- a flag past the plan's keeps its start bit
  pub others_keep : (cs : List Call) (f : ℕ) → p.conditions.flags ≤ f → (states whole p (fresh F) cs).flag f ≡ F f
  unfolding flag_after last_asserted_of
  others_keep cs f l = go (states whole p (fresh F) cs) (reaches whole p part w F cs)
    where
      off : (k : Place) (t : ℕ) (o : Option Bool) → p.conditions.sign k t f ≡ o → o ≡ none
      off k t none q = refl
      off k t (some v) q = absurd (omega (arith, (w.on_task k t f v q).2))

      silent : (e : Event) → asserts p e f ≡ none
      silent (start t) = off inc t (p.conditions.sign inc t f) refl
      silent (finish t) = off post t (p.conditions.sign post t f) refl
      silent (skip g) = refl

      never : (h : History) → last_asserted p h f ≡ none
      never [] = refl
      never (e ∷ h) = rw (silent e) (never h)

      go : (b : World) → Reached p F b → b.flag f ≡ F f
      go b x = rw x.same (rw (never (flat x.calls)))

-- every well-formed plan satisfies demand 3, whatever is blocked where 28 and 29 pass
module _ (p : Plan) (w : WellFormed p) (S : ℕ → Bool) (ok : Blocks p S) (F : ℕ → Bool) where
  abbrev q : Plan
  q = without p S

  wq : WellFormed q
  wq = blocked_well_formed p w S ok

  part : LeftOf p q
  part = without_left p w S

  pub demand3 : Demand3On p S F
  demand3 = record {
    worked = λ cs. (returns p q (fresh F) cs, states p q (fresh F) cs, worked p q wq (fresh F) cs);
    unique = λ x y. let (a, b) = worked_only p q wq x in let (c, d) = worked_only p q wq y in (a ∙ sym c, b ∙ sym d);
    others = λ x. others x;
    beyond = λ x. beyond x;
    ordinals = λ x. worked_numbered p q [] x (fresh_numbered p q F);
    judged = (verdict q F, (verdict_exact q wq F (verdict q F)).0 refl, λ u j. sym ((verdict_exact q wq F u).1 j));
    clear = (
      λ c cs ns a x. never c x,
      λ g. (clear_exact p q part wq F).1
          (λ cs. g cs (returns p q (fresh F) cs) (states p q (fresh F) cs) (worked p q wq (fresh F) cs)),
    );
    violated = λ k. let (cs, x) = violated p q part wq F k in record {
      calls = cs;
      returns = returns p q (fresh F) cs;
      after = states p q (fresh F) cs;
      worked = worked p q wq (fresh F) cs;
      violation = x;
    };
    doomed = λ d cs ns a x. doomed d x;
  }
    where
      others : {cs : List Call} {ns : List ℕ} {a : World} → CallsOn p S F cs ns a → (x : ℕ) → ¬ Task q x
          → WaitsOrSkipped q x a.status
      others {cs} {a = a} y x n = let (e, z) = worked_only p q wq y in rw z (others_wait p q part wq F cs x n)

      beyond : {cs : List Call} {ns : List ℕ} {a : World} → CallsOn p S F cs ns a → (f : ℕ) → p.conditions.flags ≤ f
          → a.flag f ≡ F f
      beyond {cs} y f l = let (e, z) = worked_only p q wq y in rw z (others_keep p q part wq F cs f l)

      never : {cs : List Call} {ns : List ℕ} {a : World} → Clear q F → CallsOn p S F cs ns a → NoViolation ns
      never {cs} c y = let (e, z) = worked_only p q wq y in rw e ((clear_exact p q part wq F).0 c cs)

      doomed : {cs : List Call} {ns : List ℕ} {a : World} → Doomed q F → CallsOn p S F cs ns a
          → ¬ Complete q a.status 0
      doomed {cs} d y = let (e, z) = worked_only p q wq y in rw z (doomed_never_complete p q part wq F d cs)
