-- What is done stays done; and what a child can do next by itself, its all_of group can do next.
use Rattle.runs.proofs.Base.{◌≡◌, sym, ap, ◌∙◌, [], ◌∷◌, ◌++◌, ℕ, ℕ_discrete, T}
use Rattle.runs.specs.Plan.{all_of, Plan, Child}
use Rattle.runs.specs.WellFormed.{WellFormed}
use Rattle.runs.specs.Execution.{waiting, running, done, Event, History, node_of, status_after, Complete, Enabled}
use Rattle.runs.specs.Execution.{can_start, can_finish}
use Rattle.runs.specs.Execution.{can_skip, Execution, one_more, Completed}
use Rattle.runs.proofs.Reflect.{clash}
use Rattle.runs.proofs.Execution.Histories.{after_other, after_cong}
use Rattle.runs.proofs.Execution.Locality.{Agree, complete_local, enabled_local, enabled_up}
use Rattle.runs.proofs.Execution.Parts.{part, after_part, execution_tail, execution_last}
use Rattle.runs.proofs.Execution.AllOf.{no_choice}
use Rattle.runs.proofs.Execution.Completeness.{complete_mono}

module _ (p : Plan) (w : WellFormed p) where
  pub done_stays : {n : ℕ} {e : Event} (h : History) → Enabled p n (status_after h) e → (x : ℕ)
      → status_after h x ≡ done
      → status_after (e ∷ h) x ≡ done
  done_stays {n} {e} h m x d = go (ℕ_discrete x (node_of e))
    where
      not_done : {e : Event} → Enabled p n (status_after h) e → status_after h (node_of e) ≡ done → ⊥
      not_done (can_start {t = t} s) q = let a : status_after h t ≡ waiting = s.waits in clash cc
      not_done (can_finish {t = t} s) q = let a : status_after h t ≡ running = s.runs in clash cc
      not_done (can_skip {g = g} s) q = let a : status_after h g ≡ waiting = s.waits in clash cc

      go : Dec (x ≡ node_of e) → status_after (e ∷ h) x ≡ done
      go (yes q) = absurd (not_done m (ap (status_after h) (sym q) ∙ d))
      go (no k) = after_other e h x k ∙ d

  -- what is complete stays complete
  pub complete_stays : {n c : ℕ} (g h : History) → Execution p n (g ++ h) → Complete p (status_after h) c
      → Complete p (status_after (g ++ h)) c
  complete_stays [] h f d = d
  complete_stays (e ∷ g) h f d = complete_mono p (status_after (g ++ h)) (status_after (e ∷ (g ++ h)))
      (done_stays (g ++ h) (execution_last p w f))
      (complete_stays g h (execution_tail p w f) d)

  pub agree_append : (c : ℕ) (g k h : History) → Agree p c (status_after k) (status_after h)
      → Agree p c (status_after (g ++ k)) (status_after (g ++ h))
  agree_append c [] k h a x u = a x u
  agree_append c (e ∷ g) k h a x u = after_cong e (g ++ k) (g ++ h) x (agree_append c g k h a x u)

  -- the extension lemma: what child c can do next by itself, the group can do next, once the nodes ordered before c are
  -- complete
  pub extend : {n c : ℕ} (g h : History) → p.tree.kind n ≡ all_of → Child p n c
      → ((a : ℕ) → Child p n a → T (p.order a c) → Complete p (status_after h) a)
      → Execution p n h → Execution p c (g ++ part p w c h) → Execution p n (g ++ h)
  extend [] h k hc o f q = f
  extend {n} {c} (e ∷ g) h k hc o f q = add (extend g h k hc o f (execution_tail p w q))
    where
      add : Execution p n (g ++ h) → Execution p n (e ∷ (g ++ h))
      add f' = one_more f' (enabled_up p w (status_after (g ++ h)) hc
          (enabled_local p (status_after (g ++ part p w c h)) (status_after (g ++ h))
          (agree_append c g (part p w c h) h (after_part p w c h))
          (execution_last p w q)) (λ be. no_choice p w k (λ a ha oa. complete_stays g h f' (o a ha oa))))

  pub extend_completed : {n c : ℕ} (g h : History) → p.tree.kind n ≡ all_of → Child p n c
      → ((a : ℕ) → Child p n a → T (p.order a c) → Complete p (status_after h) a)
      → Execution p n h → Completed p c (g ++ part p w c h)
      → Execution p n (g ++ h) × Complete p (status_after (g ++ h)) c
  extend_completed {n} {c} g h k hc o f q = (
    extend g h k hc o f q.execution,
    complete_local p (status_after (g ++ part p w c h)) (status_after (g ++ h))
        (agree_append c g (part p w c h) h (after_part p w c h)) q.complete,
  )
