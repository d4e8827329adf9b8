-- The same executions read forwards, the first event first.
use Rattle.runs.proofs.Base.{◌↔◌, [], ◌∷◌, reverse, reverse_aux, ℕ}
use Rattle.runs.specs.Plan.{Plan}
use Rattle.runs.specs.Execution.{State, Event, History, moved, status_after, Enabled, Execution, none_yet}
use Rattle.runs.specs.Execution.{one_more}

-- each event is allowed in the states that those before it leave
pub data Forward (p : Plan) (n : ℕ) : State → History → Type 0 where
  at_end : {s : State} → Forward p n s []
  next : {s : State} {e : Event} {es : History} → Enabled p n s e → Forward p n (moved s e) es → Forward p n s (e ∷ es)

module _ (p : Plan) (n : ℕ) where
  forward_free : (es h : History) → Execution p n h → Forward p n (status_after h) es → Execution p n (reverse_aux es h)
  unfolding status_after
  forward_free [] h f at_end = f
  forward_free (e ∷ es) h f (next m g) = forward_free es (e ∷ h) (one_more f m) g

  tail_free : (es h : History) → Execution p n (reverse_aux es h) → Execution p n h
  tail_free [] h f = f
  tail_free (e ∷ es) h f = drop (tail_free es (e ∷ h) f)
    where
      drop : {e : Event} {h : History} → Execution p n (e ∷ h) → Execution p n h
      drop (one_more f m) = f

  free_forward : (es h : History) → Execution p n (reverse_aux es h) → Forward p n (status_after h) es
  unfolding status_after
  free_forward [] h f = at_end
  free_forward (e ∷ es) h f = next (top (tail_free es (e ∷ h) f)) (free_forward es (e ∷ h) f)
    where
      top : {e : Event} {h : History} → Execution p n (e ∷ h) → Enabled p n (status_after h) e
      top (one_more f m) = m

  -- a list of events read forwards is an execution exactly if its history is
  pub forwards : (es : History) → Forward p n (status_after []) es ↔ Execution p n (reverse es)
  forwards es = (forward_free es [] none_yet, free_forward es [])
