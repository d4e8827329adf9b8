-- May and must external postcondition, through last and quiet.
use Rattle.runs.proofs.Base.{◌≡◌, refl, ap, ◌∙◌, ◌↔◌, ◌≢◌, Bool-discrete, Bool, true, false, not, Option, none}
use Rattle.runs.proofs.Base.{some, [], ◌∷◌, ℕ}
use Rattle.runs.specs.Plan.{Plan}
use Rattle.runs.specs.Execution.{History, Completed, last_asserted_of, asserts, last_asserted}
use Rattle.runs.specs.Summary.{May, Must, ExternalPost}
use Rattle.runs.proofs.Reflect.{clash}
use Rattle.runs.specs.Classes.{Unasserted, Asserts, MayQuiet, LastIs, here, past, MayLast}
use Rattle.runs.proofs.Summary.Events.{unasserted_all, all_unasserted}

module _ (p : Plan) (f : ℕ) where
  pub last_some : {v : Bool} {h : History} → LastIs (Unasserted p f) (Asserts p f v) h → last_asserted p h f ≡ some v
  unfolding last_asserted_of
  last_some (here x) = rw x
  last_some (past q l) = rw q (last_some l)

  pub some_last : (v : Bool) (h : History) → last_asserted p h f ≡ some v → LastIs (Unasserted p f) (Asserts p f v) h
  unfolding last_asserted_of
  some_last v [] q = clash cc
  some_last v (e ∷ h) q = go (asserts p e f) refl (λ x. some_last v h x)
    where
      go : (o : Option Bool) → asserts p e f ≡ o
          → (last_asserted p h f ≡ some v → LastIs (Unasserted p f) (Asserts p f v) h)
          → LastIs (Unasserted p f) (Asserts p f v) (e ∷ h)
      go none r ih = past r (ih (rw r at q))
      go (some u) r ih = here (r ∙ (rw r at q))

  -- some completed execution does not assert the flag
  pub avoid_is_quiet : {n : ℕ} → May p n (λ h. last_asserted p h f ≡ none) ↔ MayQuiet p (Unasserted p f) n
  avoid_is_quiet = (
    λ m. record { history = m.history; completed = m.completed; holds = unasserted_all p f m.history m.holds },
    λ m. record { history = m.history; completed = m.completed; holds = all_unasserted p f m.holds },
  )

  -- may external postcondition: the literal is asserted last
  pub may_post_is_last : {n : ℕ} (v : Bool)
      → May p n (ExternalPost p f v) ↔ MayLast p (Unasserted p f) (Asserts p f v) n
  may_post_is_last {n} v = (
    λ m. record { history = m.history; completed = m.completed; holds = some_last v m.history m.holds },
    λ m. record { history = m.history; completed = m.completed; holds = last_some m.holds },
  )

  -- must external postcondition: no completed execution avoids the flag, none asserts the opposite last
  pub must_post_is : {n : ℕ} (v : Bool) → Must p n (ExternalPost p f v)
      ↔ ((¬ May p n (λ h. last_asserted p h f ≡ none)) × (¬ May p n (ExternalPost p f (not v))))
  must_post_is {n} v = (
    λ m. (
      λ q. never q.history (m q.history q.completed) q.holds,
      λ q. other q.history v (m q.history q.completed) q.holds,
    ),
    λ k h x. at k h x (last_asserted p h f) refl,
  )
    where
      never : (h : History) → last_asserted p h f ≡ some v → last_asserted p h f ≡ none → ⊥
      never h a b = clash cc

      other : (h : History) (v : Bool) → last_asserted p h f ≡ some v → last_asserted p h f ≡ some (not v) → ⊥
      other h true a b = clash cc
      other h false a b = clash cc

      flip : (u v : Bool) → u ≢ v → u ≡ not v
      flip true true k = absurd (k refl)
      flip true false k = refl
      flip false true k = refl
      flip false false k = absurd (k refl)

      at : (¬ May p n (λ h. last_asserted p h f ≡ none)) × (¬ May p n (ExternalPost p f (not v))) → (h : History)
          → Completed p n h
          → (o : Option Bool) → last_asserted p h f ≡ o → last_asserted p h f ≡ some v
      at (a, b) h x none q = absurd (a (record { history = h; completed = x; holds = q }))
      at (a, b) h x (some u) q = same (Bool-discrete u v)
        where
          same : Dec (u ≡ v) → last_asserted p h f ≡ some v
          same (yes e) = q ∙ ap some e
          same (no ne) = absurd (b (record { history = h; completed = x; holds = q ∙ ap some (flip u v ne) }))
