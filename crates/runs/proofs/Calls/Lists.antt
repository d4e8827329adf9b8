-- Lists of calls, the first call first, refused calls anywhere among them: the states that they leave are those after
-- the accepted ones, and a return is 21, 22 or 26 in some list exactly if some accepted list comes to a violation.
use Rattle.runs.proofs.Base.{◌≡◌, refl, sym, ap, ◌∙◌, fun_ext, ◌⊎◌, inl, inr, Bool, Option, none, some}
use Rattle.runs.proofs.Base.{Option·getD, List, [], ◌∷◌, ◌++◌}
use Rattle.runs.proofs.Base.{reverse_aux, Among, here, there, among_none, among_cases, ℕ}
use Rattle.runs.specs.Plan.{Plan}
use Rattle.runs.specs.WellFormed.{WellFormed}
use Rattle.runs.specs.Execution.{Event, History, status_after, latest, last_asserted_of, asserts, last_asserted}
use Rattle.runs.specs.Calls.{Call, events, World, fresh, happen, happen_all, Refusal, number}
use Rattle.runs.specs.Model.Monitor.{refusal_number, settle, refusal_of, returned, step, returns, states}
use Rattle.runs.proofs.Calls.Accepted.{flat, AcceptedAll, no_call, call_more, FirstViolation}
use Rattle.runs.proofs.Calls.First.{number_inj}
use Rattle.runs.proofs.Calls.Rows.{LeftOf, Violating, accepted_is, violates_to, violates_from}
use Rattle.runs.proofs.Calls.Violation.{flag_after, starts_after, ordinal_after, world_after, EnabledCall}
use Rattle.runs.proofs.Calls.Violation.{ViolatesCall}

-- a list of calls in which one returns 21, 22 or 26
pub record ViolatingList (whole p : Plan) (F : ℕ → Bool) : Type 0 where
  pub calls : List Call
  pub refusal : Refusal
  pub violating : Violating refusal
  pub hit : Among (number refusal) (returns whole p (fresh F) calls)

-- the states are those after some accepted calls
pub record Reached (p : Plan) (F : ℕ → Bool) (b : World) : Type 0 where
  pub calls : List Call
  pub accepted : AcceptedAll p F calls
  pub same : b ≡ world_after p F (flat calls)

module _ (whole p : Plan) (part : LeftOf whole p) (w : WellFormed p) (F : ℕ → Bool) where
  fresh_is : fresh F ≡ world_after p F []
  unfolding status_after flag_after starts_after ordinal_after last_asserted_of
  fresh_is = refl

  happen_is : (h : History) (e : Event) → happen p (world_after p F h) e ≡ world_after p F (e ∷ h)
  unfolding status_after flag_after starts_after ordinal_after last_asserted_of
  happen_is h e = λ i. record {
    status = status_after (e ∷ h);
    flag = fun_ext (λ f. at (asserts p e f) (last_asserted p h f) (F f)) i;
    starts = starts_after (e ∷ h);
    ordinal = ordinal_after (e ∷ h);
  }
    where
      at : (o l : Option Bool) (b : Bool) → Option·getD o (Option·getD l b) ≡ Option·getD (latest o l) b
      at none l b = refl
      at (some v) l b = refl

  happen_all_is : (g h : History) → happen_all p (world_after p F h) g ≡ world_after p F (g ++ h)
  happen_all_is [] h = refl
  happen_all_is (e ∷ g) h = ap (λ a. happen p a e) (happen_all_is g h) ∙ happen_is (g ++ h) e

  abbrev After : List Call → World
  After cs = world_after p F (flat cs)

  -- one call after accepted ones
  step_reached : {cs : List Call} → AcceptedAll p F cs → (c : Call) → Reached p F (step whole p (After cs) c)
  unfolding step
  step_reached {cs} k c = go (refusal_of whole p (After cs) c) refl
    where
      go : (o : Option Refusal) → refusal_of whole p (After cs) c ≡ o
          → Reached p F (settle o (After cs) (happen_all p (After cs) (events c)))
      go none q = let (m, n) = (accepted_is whole p part w (After cs) c).0 q in
          record { calls = c ∷ cs; accepted = call_more k m n; same = happen_all_is (events c) (flat cs) }
      go (some r) q = record { calls = cs; accepted = k; same = refl }

  step_accepts : (cs : List Call) (c : Call) → EnabledCall p (After cs).status c → ¬ ViolatesCall p (After cs) c
      → step whole p (After cs) c ≡ After (c ∷ cs)
  unfolding step
  step_accepts cs c m n = ap (λ o. settle o (After cs) (happen_all p (After cs) (events c)))
      ((accepted_is whole p part w (After cs) c).1 (m, n))
      ∙ happen_all_is (events c) (flat cs)

  states_reached : (cs : List Call) {ds : List Call} → AcceptedAll p F ds → Reached p F (states whole p (After ds) cs)
  unfolding states
  states_reached [] {ds} k = record { calls = ds; accepted = k; same = refl }
  states_reached (c ∷ cs) {ds} k =
      go (step whole p (After ds) c) (step_reached k c) (λ g m. states_reached cs {ds = g} m)
    where
      go : (b : World) → Reached p F b
          → ((g : List Call) → AcceptedAll p F g → Reached p F (states whole p (After g) cs))
          → Reached p F (states whole p b cs)
      go b x ih = rw x.same (ih x.calls x.accepted)

  -- the states after any list of calls are those after its accepted calls
  pub reaches : (cs : List Call) → Reached p F (states whole p (fresh F) cs)
  reaches cs = rw fresh_is (states_reached cs no_call)

  -- the accepted calls ds, and then the calls cs: what is returned among these is returned among all
  among_accepted : {ds : List Call} → AcceptedAll p F ds → (cs : List Call) (r : ℕ)
      → Among r (returns whole p (After ds) cs)
      → Among r (returns whole p (fresh F) (reverse_aux ds cs))
  unfolding returns
  among_accepted no_call cs r x = rw fresh_is x
  among_accepted (call_more {c = c} {cs = ds} k m n) cs r x =
      among_accepted k (c ∷ cs) r (there (rw (step_accepts ds c m n) x))

  pub violating_list : FirstViolation p F → ViolatingList whole p F
  unfolding returns returned
  violating_list x =
      let (r, v, q) = violates_from whole p part w (After x.calls) x.call x.enabled x.violates in
      record {
        calls = reverse_aux x.calls (x.call ∷ []);
        refusal = r;
        violating = v;
        hit = among_accepted x.accepted (x.call ∷ []) (number r) (top r q);
      }
    where
      top : (r : Refusal) → refusal_of whole p (After x.calls) x.call ≡ some r
          → Among (number r) (returns whole p (After x.calls) (x.call ∷ []))
      top r q = here (sym (ap refusal_number q))

  violates_in : (cs : List Call) {ds : List Call} → AcceptedAll p F ds → (r : Refusal) → Violating r
      → Among (number r) (returns whole p (After ds) cs)
      → FirstViolation p F
  unfolding returns returned
  violates_in [] k r v x = absurd (among_none x)
  violates_in (c ∷ cs) {ds} k r v x = go (among_cases x) (λ g m y. violates_in cs {ds = g} m r v y)
    where
      go : (number r ≡ refusal_number (refusal_of whole p (After ds) c))
          ⊎ Among (number r) (returns whole p (step whole p (After ds) c) cs)
          → ((g : List Call) → AcceptedAll p F g → Among (number r) (returns whole p (After g) cs) → FirstViolation p F)
          → FirstViolation p F
      go (inl q) ih = let (m, b) = violates_to whole p part w (After ds) c r v
          (sym (number_inj {o = some r} {x = refusal_of whole p (After ds) c} q)) in
          record { calls = ds; call = c; accepted = k; enabled = m; violates = b }
      go (inr y) ih = rest (step whole p (After ds) c) (step_reached k c) y
        where
          rest : (b : World) → Reached p F b → Among (number r) (returns whole p b cs) → FirstViolation p F
          rest b g y = ih g.calls g.accepted (rw g.same at y)

  pub list_violates : ViolatingList whole p F → FirstViolation p F
  list_violates x = violates_in x.calls no_call x.refusal x.violating (rw fresh_is at x.hit)
