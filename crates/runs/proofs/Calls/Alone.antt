-- A list of one task that finishes together is a finish of that task.
use Rattle.runs.proofs.Base.{◌≡◌, refl, sym, ◌↔◌, Bool, true, false, [], ◌∷◌, Among, here, among_cases}
use Rattle.runs.proofs.Base.{among_none, ◌⊎◌, inl, inr, ℕ}
use Rattle.runs.specs.Tests.{negate}
use Rattle.runs.specs.Searches.{either, any_in}
use Rattle.runs.specs.Plan.{Plan}
use Rattle.runs.specs.WellFormed.{WellFormed}
use Rattle.runs.specs.Execution.{finish}
use Rattle.runs.specs.Calls.{one, together, World, no_task, wrong_status, inc_broken, post_opposed}
use Rattle.runs.specs.Calls.{not_rising, IncBroken, PostOpposed, Applies}
use Rattle.runs.specs.Model.Monitor.{rising_b, not_rising_b, applies_b, first_of, refusal_of}
use Rattle.runs.proofs.Reflect.{r_map, r_false, same_test}
use Rattle.runs.proofs.Calls.Reflect.{r_applies}
use Rattle.runs.proofs.Calls.Together.{broken_unlisted}
use Rattle.runs.proofs.Calls.Violation.{opposed_differ}

-- what is among one number
sole : {x t : ℕ} → (x ≡ t) ⊎ Among x [] → x ≡ t
sole (inl q) = q
sole (inr i) = absurd (among_none i)

alone : (g : ℕ → Bool) (t : ℕ) → any_in (t ∷ []) g ≡ g t
unfolding any_in either
alone g t = either_none (g t)
  where
    either_none : (v : Bool) → either v (λ u. false) ≡ v
    either_none true = refl
    either_none false = refl

module _ (whole p : Plan) (w : WellFormed p) (a : World) (t : ℕ) where
  -- 26 does not apply to one task
  unopposed : ¬ PostOpposed p (t ∷ [])
  unopposed x = opposed_differ p x.on t t x.sign
      (rw (sole (among_cases x.listed)) at x.leaves)
      (rw (sole (among_cases x.other_listed)) at x.opposes) refl

  -- 22 applies to it as to its finish
  breaks : Applies whole p a (together (t ∷ [])) inc_broken ↔ IncBroken p a.status (finish t)
  breaks = (
    λ x. let (u, i, b) = (broken_unlisted p a (t ∷ [])).0 x in rw (sole (among_cases i)) at b.0,
    λ b. (broken_unlisted p a (t ∷ [])).1
        (t, here refl, (b, λ i. b.another (sym (sole (among_cases i))))),
  )

  -- the checks of the list are those of the finish, and two that do not apply
  rises : applies_b whole p a (together (t ∷ [])) not_rising ≡ false
  unfolding applies_b not_rising_b rising_b negate
  rises = refl

  tasks : applies_b whole p a (together (t ∷ [])) no_task ≡ applies_b whole p a (one (finish t)) no_task
  unfolding applies_b
  tasks = alone _ t

  statuses : applies_b whole p a (together (t ∷ [])) wrong_status ≡ applies_b whole p a (one (finish t)) wrong_status
  unfolding applies_b
  statuses = alone _ t

  leavings : applies_b whole p a (together (t ∷ [])) post_opposed ≡ false
  leavings = same_test _ _ (r_applies whole p w a (together (t ∷ [])) post_opposed) (r_false unopposed)

  holds : applies_b whole p a (together (t ∷ [])) inc_broken ≡ applies_b whole p a (one (finish t)) inc_broken
  holds = same_test _ _ (r_map breaks (r_applies whole p w a (together (t ∷ [])) inc_broken))
      (r_applies whole p w a (one (finish t)) inc_broken)

  pub one_finish : refusal_of whole p a (together (t ∷ [])) ≡ refusal_of whole p a (one (finish t))
  unfolding refusal_of first_of
  one_finish = rw (rises, tasks, statuses, leavings, holds)
