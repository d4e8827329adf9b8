-- The tests of the scan reflect it: `serial_clear_b` tells whether the plan under a sequence is CLEAR.
use Rattle.runs.proofs.Base.{◌≡◌, ◌⊎◌, inl, inr, ◌↔◌, Iff·symm, Bool, true, false, not, refl, none, List, []}
use Rattle.runs.proofs.Base.{◌∷◌}
use Rattle.runs.proofs.Base.{Among, here, there, ℕ, ◌<◌}
use Rattle.runs.specs.Plan.{all_of, Plan, Node, Child}
use Rattle.runs.specs.WellFormed.{WellFormed}
use Rattle.runs.specs.Execution.{last_asserted}
use Rattle.runs.specs.Summary.{May, ExternalPre, ExternalPost, MayClobber}
use Rattle.runs.specs.Pairs.{in_child}
use Rattle.runs.specs.Verdict.{Clear}
use Rattle.sequences.specs.Sequences.{Sequence}
use Rattle.sequences.specs.Model.{serial}
use Rattle.sequences.specs.Model.{Calm, MayBeTrue, at_start, left, stays, Safe, SafeAlong, end, step}
use Rattle.sequences.specs.Model.{start_b, next_b, every_literal_b, safe_b, passes_b, calm_b, serial_clear_b}
use Rattle.runs.proofs.Reflect.{Reflects, r_map, r_both, r_either, r_implies, r_negate, r_all, r_same}
use Rattle.runs.proofs.Plan.Reflect.{r_every_child}
use Rattle.runs.proofs.Summary.Events.{pre_flag}
use Rattle.runs.proofs.Summary.Clobber.{clobber_all}
use Rattle.runs.proofs.Summary.ReflectConditions.{r_avoid, r_may_pre, r_may_post}
use Rattle.runs.proofs.Summary.ReflectClobber.{r_may_clobber}
use Rattle.runs.proofs.Verdict.Exact.{may_fail_flag}
use Rattle.sequences.proofs.Scan.{serial_clear}

module _ (p : Plan) (w : WellFormed p) (F : ℕ → Bool) where
  -- it is enough to look at the plan's flags
  r_every_literal : (P : ℕ → Bool → Type 0) (t : ℕ → Bool → Bool) → ((f : ℕ) (v : Bool) → Reflects (t f v) (P f v))
      → ((f : ℕ) (v : Bool) → (f < p.conditions.flags → P f v) → P f v)
      → Reflects (every_literal_b p t) ((f : ℕ) (v : Bool) → P f v)
  unfolding every_literal_b
  r_every_literal P t r on = r_map (to, λ g f l. (g f true, g f false))
      (r_all (λ f. P f true × P f false) _ _ (λ f. r_both _ _ (r f true) (r f false)))
    where
      to : ((f : ℕ) → f < p.conditions.flags → P f true × P f false) → (f : ℕ) (v : Bool) → P f v
      to g f true = on f true (λ l. (g f l).0)
      to g f false = on f false (λ l. (g f l).1)

  true_before : {f c : ℕ} {v : Bool} {seen : List ℕ} → MayBeTrue p F f v (c ∷ seen)
      → May p c (ExternalPost p f v) ⊎ (May p c (λ h. last_asserted p h f ≡ none) × MayBeTrue p F f v seen)
  true_before (left l) = inl l
  true_before (stays a m) = inr (a, m)

  true_now : {f c : ℕ} {v : Bool} {seen : List ℕ}
      → May p c (ExternalPost p f v) ⊎ (May p c (λ h. last_asserted p h f ≡ none) × MayBeTrue p F f v seen)
      → MayBeTrue p F f v (c ∷ seen)
  true_now (inl l) = left l
  true_now (inr (a, m)) = stays a m

  passes_inv : {c : ℕ} {seen xs : List ℕ} → SafeAlong p F seen (c ∷ xs) → Safe p F seen c × SafeAlong p F (c ∷ seen) xs
  passes_inv (step s ps) = (s, ps)

  start_inv : {f : ℕ} {v : Bool} → MayBeTrue p F f v [] → F f ≡ v
  start_inv (at_start e) = e

  -- what may be true at first and after one node more; it is enough to look at the plan's flags
  pub true_start : {f : ℕ} {v : Bool} → MayBeTrue p F f v [] ↔ (F f ≡ v)
  true_start = (start_inv, at_start)

  pub true_next : {f c : ℕ} {v : Bool} {seen : List ℕ} → MayBeTrue p F f v (c ∷ seen)
      ↔ (May p c (ExternalPost p f v) ⊎ (May p c (λ h. last_asserted p h f ≡ none) × MayBeTrue p F f v seen))
  true_next = (true_before, true_now)

  pub safe_on_flags : {c : ℕ} {seen : List ℕ}
      → ((f : ℕ) (v : Bool) → f < p.conditions.flags → May p c (ExternalPre p f v)
      → ¬ MayBeTrue p F f (not v) seen) → Safe p F seen c
  safe_on_flags g f v x = g f v (pre_flag p w x.holds.event x.holds.needs) x

  pub r_start : (f : ℕ) (v : Bool) → Reflects (start_b F f v) (MayBeTrue p F f v [])
  unfolding start_b
  r_start f v = r_map (at_start, start_inv) (r_same (F f) v)

  -- m tells what may be true after `seen`
  module _ (m : ℕ → Bool → Bool) {seen : List ℕ}
      (r : (f : ℕ) (v : Bool) → Reflects (m f v) (MayBeTrue p F f v seen)) {c : ℕ} (l : Node p c) where
    pub r_next : (f : ℕ) (v : Bool) → Reflects (next_b p m c f v) (MayBeTrue p F f v (c ∷ seen))
    unfolding next_b
    r_next f v =
        r_map (true_now, true_before) (r_either _ _ (r_may_post p w c f l v) (r_both _ _ (r_avoid p w c f l) (r f v)))

    pub r_safe : Reflects (safe_b p m c) (Safe p F seen c)
    unfolding safe_b
    r_safe = r_every_literal (λ f v. May p c (ExternalPre p f v) → ¬ MayBeTrue p F f (not v) seen) _
        (λ f v. r_implies _ _ (r_may_pre p w c f l v) (λ x. r_negate _ (r f (not v))))
        (λ f v g x. g (pre_flag p w x.holds.event x.holds.needs) x)

  pub r_passes : (m : ℕ → Bool → Bool) {seen : List ℕ}
      → ((f : ℕ) (v : Bool) → Reflects (m f v) (MayBeTrue p F f v seen)) → (xs : List ℕ)
      → ((c : ℕ) → Among c xs → Node p c) → Reflects (passes_b p m xs) (SafeAlong p F seen xs)
  unfolding passes_b
  r_passes m r [] l = record { to = λ t. end; from = λ x. tt }
  r_passes m r (c ∷ xs) l = r_map (λ x. step x.0 x.1, passes_inv)
      (r_both _ _ (r_safe m r (l c (here refl)))
      (r_passes (next_b p m c) (r_next m r (l c (here refl))) xs (λ b i. l b (there i))))

  module _ (kr : p.tree.kind 0 ≡ all_of) where
    clobber_flag : {c f : ℕ} {v : Bool} → Child p 0 c → MayClobber p f v c → f < p.conditions.flags
    clobber_flag {c} {f} {v} hc x = may_fail_flag p w F f v (inl ((clobber_all p w kr f v).1 (in_child c hc x)))

    pub calm_on_flags : ((c : ℕ) → Child p 0 c → (f : ℕ) (v : Bool) → f < p.conditions.flags → ¬ MayClobber p f v c)
        → Calm p
    calm_on_flags g c hc f v x = g c hc f v (clobber_flag hc x) x

    pub r_calm : Reflects (calm_b p) (Calm p)
    unfolding calm_b
    r_calm = r_every_child p w (λ c. (f : ℕ) (v : Bool) → ¬ MayClobber p f v c) _
        (λ c hc. r_every_literal (λ f v. ¬ MayClobber p f v c) _
        (λ f v. r_negate _ (r_may_clobber p w f v c hc.node))
        (λ f v g x. g (clobber_flag hc x) x))

    pub serial_clear_exact : (xs : List ℕ) → Sequence p xs → Reflects (serial_clear_b p F xs) (Clear (serial p xs) F)
    unfolding serial_clear_b
    serial_clear_exact xs sq = r_map (Iff·symm (serial_clear p w F kr xs sq))
        (r_both _ _ r_calm (r_passes (start_b F) r_start xs (λ c i. (sq.child c i).node)))
