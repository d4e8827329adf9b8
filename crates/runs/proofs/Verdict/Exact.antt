-- The computed verdict is the verdict; CLEAR and DOOMED exclude each other.
use Rattle.runs.proofs.Base.{◌≡◌, refl, ◌⊎◌, inl, inr, ◌↔◌, Bool, true, false, ℕ, ◌<◌}
use Rattle.runs.specs.Plan.{inc, post, Plan}
use Rattle.runs.specs.WellFormed.{WellFormed}
use Rattle.runs.specs.Execution.{Event, History}
use Rattle.runs.specs.Summary.{Clobbers, precondition, incondition, MayClobber, Mark, may_pre, must_pre}
use Rattle.runs.specs.Summary.{may_clobber, must_clobber}
use Rattle.runs.specs.Verdict.{Verdict, CLEAR, DOOMED, OPEN, Clear, Doomed, by_clobber, by_start, Judged}
use Rattle.runs.specs.Model.Verdicts.{Fails}
use Rattle.runs.specs.Model.Verdicts.{fails_b, some_literal_b, may_fail_b, must_fail_b, judge, verdict}
use Rattle.runs.proofs.Reflect.{clash, Reflects, r_map, decided, r_both, r_either, r_any, r_same}
use Rattle.runs.proofs.Execution.{completed_execution}
use Rattle.runs.proofs.Summary.{pre_flag, marks_exact, must_clobber_may}

abbrev pub MayFail : Plan → (ℕ → Bool) → ℕ → Bool → Type 0
MayFail p F = Fails p F may_clobber may_pre

abbrev pub MustFail : Plan → (ℕ → Bool) → ℕ → Bool → Type 0
MustFail p F = Fails p F must_clobber must_pre

abbrev pub SomeLiteral : (ℕ → Bool → Type 0) → Type 0
SomeLiteral P = (f : ℕ) × (v : Bool) × P f v

module _ (p : Plan) (w : WellFormed p) (F : ℕ → Bool) where
  r_fails : (m k : Mark) (f : ℕ) (v : Bool) → Reflects (fails_b p F m k f v) (Fails p F m k f v)
  unfolding fails_b
  r_fails m k f v = r_either _ _ (marks_exact p w 0 f w.root_node v m)
      (r_both _ _ (r_same _ _) (marks_exact p w 0 f w.root_node v k))

  -- what may fail is on a flag of the plan, and what must fail may fail
  clobber_flag : (f : ℕ) (v : Bool) → MayClobber p f v 0 → f < p.conditions.flags
  clobber_flag f v (inr x) = (w.on_task post x.who f v x.leaves).2
  clobber_flag f v (inl x) = at x.history x.event x.clobbers
    where
      at : (h : History) (e : Event) → Clobbers p f v h e → f < p.conditions.flags
      at h e (precondition nd sp) = pre_flag p w e nd
      at h e (incondition t ne ho ru br) = (w.on_task inc t f v ho).2

  pub may_fail_flag : (f : ℕ) (v : Bool) → MayFail p F f v → f < p.conditions.flags
  may_fail_flag f v (inl x) = clobber_flag f v x
  may_fail_flag f v (inr (q, x)) = pre_flag p w x.holds.event x.holds.needs

  pub must_fail_may : (f : ℕ) (v : Bool) → MustFail p F f v → MayFail p F f v
  must_fail_may f v (inl d) = inl (must_clobber_may p w f v w.root_node d)
  must_fail_may f v (inr (q, m)) = let (h, x) = completed_execution p w 0 w.root_node in
      inr (q, record { history = h; completed = x; holds = m h x })

  r_some_literal : (P : ℕ → Bool → Type 0) (t : ℕ → Bool → Bool) → ((f : ℕ) (v : Bool) → Reflects (t f v) (P f v))
      → ((f : ℕ) (v : Bool) → P f v → f < p.conditions.flags) → Reflects (some_literal_b p F t) (SomeLiteral P)
  unfolding some_literal_b
  r_some_literal P t r on = r_map (to, from)
      (r_any (λ f. P f true ⊎ P f false) _ _ (λ f. r_either _ _ (r f true) (r f false)))
    where
      to : (f : ℕ) × (f < p.conditions.flags) × (P f true ⊎ P f false) → SomeLiteral P
      to (f, l, inl x) = (f, true, x)
      to (f, l, inr x) = (f, false, x)

      from : SomeLiteral P → (f : ℕ) × (f < p.conditions.flags) × (P f true ⊎ P f false)
      from (f, true, x) = (f, on f true x, inl x)
      from (f, false, x) = (f, on f false x, inr x)

  pub r_may_fail : Reflects (may_fail_b p F) (SomeLiteral (MayFail p F))
  unfolding may_fail_b
  r_may_fail = r_some_literal (MayFail p F) _ (r_fails may_clobber may_pre) may_fail_flag

  pub r_must_fail : Reflects (must_fail_b p F tt) (SomeLiteral (MustFail p F))
  unfolding must_fail_b
  r_must_fail = r_some_literal (MustFail p F) _ (r_fails must_clobber must_pre)
      (λ f v x. may_fail_flag f v (must_fail_may f v x))

  -- CLEAR: no literal may fail; DOOMED: some literal must
  pub clear_is : Clear p F ↔ (¬ SomeLiteral (MayFail p F))
  clear_is = (
    λ c x. at c x.0 x.1 x.2,
    λ k. record { no_clobber = λ f v x. k (f, v, inl x); no_pre = λ f v q x. k (f, v, inr (q, x)) },
  )
    where
      at : Clear p F → (f : ℕ) (v : Bool) → MayFail p F f v → ⊥
      at c f v (inl x) = c.no_clobber f v x
      at c f v (inr (q, x)) = c.no_pre f v q x

  pub doomed_is : Doomed p F ↔ SomeLiteral (MustFail p F)
  doomed_is = (to, λ x. from x.0 x.1 x.2)
    where
      to : Doomed p F → SomeLiteral (MustFail p F)
      to (by_clobber f v d) = (f, v, inl d)
      to (by_start f v q m) = (f, v, inr (q, m))

      from : (f : ℕ) (v : Bool) → MustFail p F f v → Doomed p F
      from f v (inl d) = by_clobber f v d
      from f v (inr (q, m)) = by_start f v q m

  -- CLEAR and DOOMED exclude each other
  pub clear_not_doomed : Clear p F → ¬ Doomed p F
  clear_not_doomed c d = let (f, v, x) = doomed_is.0 d in (clear_is.0 c) (f, v, must_fail_may f v x)

  -- CLEAR, or a literal that may fail
  pub clear_or_may_fail : Clear p F ⊎ SomeLiteral (MayFail p F)
  clear_or_may_fail = go (decided r_may_fail)
    where
      go : Dec (SomeLiteral (MayFail p F)) → Clear p F ⊎ SomeLiteral (MayFail p F)
      go (yes x) = inr x
      go (no k) = inl (clear_is.1 k)

  judged : (b c : Bool) → Reflects b (SomeLiteral (MayFail p F)) → Reflects c (Doomed p F) → (v : Verdict)
      → (judge b (λ u. c) ≡ v) ↔ Judged p F v
  unfolding judge
  judged false c rc rd CLEAR = (λ q. clear_is.1 rc.from, λ x. refl)
  judged false c rc rd DOOMED = (λ q. clash cc, λ d. absurd (clear_not_doomed (clear_is.1 rc.from) d))
  judged false c rc rd OPEN = (λ q. clash cc, λ x. absurd (x.0 (clear_is.1 rc.from)))
  judged true true rc rd CLEAR = (λ q. clash cc, λ x. absurd (clear_is.0 x (rc.to tt)))
  judged true true rc rd DOOMED = (λ q. rd.to tt, λ x. refl)
  judged true true rc rd OPEN = (λ q. clash cc, λ x. absurd (x.1 (rd.to tt)))
  judged true false rc rd CLEAR = (λ q. clash cc, λ x. absurd (clear_is.0 x (rc.to tt)))
  judged true false rc rd DOOMED = (λ q. clash cc, λ x. absurd (rd.from x))
  judged true false rc rd OPEN = (λ q. (λ x. clear_is.0 x (rc.to tt), rd.from), λ x. refl)

  -- the computed verdict is the verdict
  pub verdict_exact : (v : Verdict) → (verdict p F ≡ v) ↔ Judged p F v
  unfolding verdict
  verdict_exact = judged (may_fail_b p F) (must_fail_b p F tt) r_may_fail
      (r_map (doomed_is.1, doomed_is.0) r_must_fail)
