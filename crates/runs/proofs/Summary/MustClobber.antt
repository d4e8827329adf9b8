-- The rule for must clobber is sound: every completed execution of such a node starts a task whose precondition was
-- last asserted false.
use Rattle.runs.proofs.Base.{◌≡◌, refl, sym, ◌≢◌, ◌⊎◌, inl, inr, Bool, not, Option, none, some, [], ◌∷◌, ℕ}
use Rattle.runs.proofs.Base.{ℕ_discrete}
use Rattle.runs.specs.Plan.{all_of, Plan, Child, Under, Before, Unordered, Node}
use Rattle.runs.specs.WellFormed.{WellFormed}
use Rattle.runs.specs.Execution.{Event, start, finish, skip, History, node_of, status_after, Execution, Completed}
use Rattle.runs.specs.Execution.{pre_of, last_asserted_of, asserts, last_asserted, Earlier, none_later, one_later}
use Rattle.runs.specs.Summary.{Must, ExternalPre, ExternalPost, Silent, MustClobber, by_any_of, by_child, by_pair}
use Rattle.runs.specs.Summary.{MayClobber, precondition}
use Rattle.runs.proofs.Reflect.{clash}
use Rattle.runs.proofs.Plan.{Branch, dec_under, dec_before}
use Rattle.runs.proofs.Execution.{all_at, earlier_nil, earlier_inv, branch_of, OfKind, enabled_of_kind, part}
use Rattle.runs.proofs.Execution.{part_nil, part_in, part_out, execution_tail, execution_last, earlier_execution}
use Rattle.runs.proofs.Execution.{part_completed, any_completed, completed_execution, apart, completed_before}
use Rattle.runs.specs.Classes.{Unasserted}
use Rattle.runs.proofs.Summary.Events.{unasserted_all}

-- in the history h a task with the precondition starts after a last assertion of its opposite
pub record Fails (p : Plan) (f : ℕ) (v : Bool) (h : History) : Type 0 where
  pub event : Event
  pub before : History
  pub at : Earlier (event ∷ before) h
  pub needs : pre_of p.conditions event f ≡ some v
  pub opposed : last_asserted p before f ≡ some (not v)

module _ (p : Plan) (w : WellFormed p) where
  -- a moment of a part is a moment of the history
  pub record InHistory (c : ℕ) (e : Event) (k h : History) : Type 0 where
    pub before : History
    pub at : Earlier (e ∷ before) h
    pub same : part p w c before ≡ k
    pub beneath : Under p c (node_of e)

  pub in_history : (c : ℕ) (e : Event) (k h : History) → Earlier (e ∷ k) (part p w c h) → InHistory c e k h
  in_history c e k [] q = absurd (earlier_nil q (part_nil p w c))
  in_history c e k (x ∷ h) q = go (dec_under p w c (node_of x)) (λ z. in_history c e k h z)
    where
      up : InHistory c e k h → InHistory c e k (x ∷ h)
      up i = record { before = i.before; at = one_later i.at; same = i.same; beneath = i.beneath }

      go : Dec (Under p c (node_of x)) → (Earlier (e ∷ k) (part p w c h) → InHistory c e k h) → InHistory c e k (x ∷ h)
      go (no n) ih = up (ih (rw (part_out p w c x h n) at q))
      go (yes u) ih = split (earlier_inv (rw (part_in p w c x h u) at q))
        where
          split : (e ∷ k ≡ x ∷ part p w c h) ⊎ Earlier (e ∷ k) (part p w c h) → InHistory c e k (x ∷ h)
          split (inr z) = up (ih z)
          split (inl z) = let same_e : e ≡ x = cc in let same_k : k ≡ part p w c h = cc in
              record { before = h; at = rw same_e none_later; same = sym same_k; beneath = rw same_e u }

  pub earlier_part : {b : ℕ} {e : Event} {s r : History} → Under p b (node_of e) → Earlier (e ∷ s) r
      → Earlier (e ∷ part p w b s) (part p w b r)
  earlier_part {b} {e} {s} u none_later = rw (part_in p w b e s u) none_later
  earlier_part {b} {e} {s} u (one_later {e = x} {h = l} y) = lift (dec_under p w b (node_of x)) (earlier_part u y)
    where
      lift : Dec (Under p b (node_of x)) → Earlier (e ∷ part p w b s) (part p w b l)
          → Earlier (e ∷ part p w b s) (part p w b (x ∷ l))
      lift (yes v) y = rw (part_in p w b x l v) (one_later y)
      lift (no k) y = rw (part_out p w b x l k) y

  -- no event under a silent node asserts the flag; a skip never does
  silent_event : {f b : ℕ} (e : Event) → Silent p f b → OfKind p e → Under p b (node_of e) → Unasserted p f e
  silent_event (start t) x k u = x (start t) k u
  silent_event (finish t) x k u = x (finish t) k u
  silent_event (skip g) x k u = refl

  -- a part's last assertion is the history's, if no other one comes after the part has begun
  pub last_of_part : (f : ℕ) (u : Bool) (c : ℕ) (r : History)
      → ((e : Event) (s : History) → Earlier (e ∷ s) r → ¬ Unasserted p f e
      → Under p c (node_of e) ⊎ (part p w c s ≡ []))
      → last_asserted p (part p w c r) f ≡ some u → last_asserted p r f ≡ some u
  unfolding last_asserted_of
  last_of_part f u c [] k q = rw (part_nil p w c) at q
  last_of_part f u c (e ∷ s) k q =
      go (dec_under p w c (node_of e)) (asserts p e f) refl (λ z. last_of_part f u c s (λ x r y. k x r (one_later y)) z)
    where
      go : Dec (Under p c (node_of e)) → (o : Option Bool) → asserts p e f ≡ o
          → (last_asserted p (part p w c s) f ≡ some u → last_asserted p s f ≡ some u)
          → last_asserted p (e ∷ s) f ≡ some u
      go (yes v) none wr ih = let q' : last_asserted p (e ∷ part p w c s) f ≡ some u = rw (part_in p w c e s v) at q in
          rw wr (ih (rw wr at q'))
      go (yes v) (some o) wr ih = let q' : last_asserted p (e ∷ part p w c s) f ≡ some u =
          rw (part_in p w c e s v) at q in rw wr (rw wr at q')
      go (no n) none wr ih = rw wr (ih (rw (part_out p w c e s n) at q))
      go (no n) (some o) wr ih = absurd (at (k e s none_later (λ z. clash cc)))
        where
          at : Under p c (node_of e) ⊎ (part p w c s ≡ []) → ⊥
          at (inl v) = n v
          at (inr z) = let q₁ : last_asserted p (part p w c s) f ≡ some u = rw (part_out p w c e s n) at q in
              let q₂ : last_asserted p [] f ≡ some u = rw z at q₁ in clash cc

  module _ (f : ℕ) (v : Bool) where
    module _ {n : ℕ} (kn : p.tree.kind n ≡ all_of) where
      -- an event under c comes next: nothing under what stands after c has happened
      not_yet : {b c : ℕ} {ev e : Event} {r s : History} → Child p n b → Execution p n (ev ∷ r) → Under p c (node_of ev)
          → Before p c b
          → Earlier (e ∷ s) r → Under p b (node_of e) → ⊥
      not_yet hb fr ut q x u = earlier_nil (earlier_part u x) (apart p w fr hb q ut)

      -- an event that asserts is one of c, or comes before c has begun, if no child that is not before c can have it
      where_is : {c : ℕ} {e : Event} {s : History} → Child p n c → Execution p n (e ∷ s)
          → ((b : ℕ) → Child p n b → Under p b (node_of e) → b ≢ c → ¬ Before p b c → ⊥)
          → Under p c (node_of e) ⊎ (part p w c s ≡ [])
      where_is {c} {e} {s} hc fe others = go (ℕ_discrete be.via c) (dec_before p w be.via c)
        where
          be : Branch p n (node_of e)
          be = branch_of p w (status_after s) kn (execution_last p w fe)

          go : Dec (be.via ≡ c) → Dec (Before p be.via c) → Under p c (node_of e) ⊎ (part p w c s ≡ [])
          go (yes z) y = inl (rw z at be.beneath)
          go (no k) (yes y) = inr (apart p w fe hc y be.beneath)
          go (no k) (no y) = absurd (others be.via be.child be.beneath k y)

      child_fails : (c : ℕ) → Child p n c → ((b : ℕ) → Child p n b → Unordered p b c → Silent p f b) → (h : History)
          → Execution p n h
          → Fails p f v (part p w c h) → Fails p f v h
      child_fails c hc un h fh y = record {
        event = y.event;
        before = i.before;
        at = i.at;
        needs = y.needs;
        opposed = last_of_part f (not v) c i.before in_c (rw i.same y.opposed);
      }
        where
          i : InHistory c y.event y.before h
          i = in_history c y.event y.before h y.at

          fr : Execution p n (y.event ∷ i.before)
          fr = earlier_execution p w i.at fh

          in_c : (e : Event) (s : History) → Earlier (e ∷ s) i.before → ¬ Unasserted p f e
              → Under p c (node_of e) ⊎ (part p w c s ≡ [])
          in_c e s x nu = where_is hc fe (λ b hb ub k y. go b hb ub k y (dec_before p w c b))
            where
              fe : Execution p n (e ∷ s)
              fe = earlier_execution p w x (execution_tail p w fr)

              go : (b : ℕ) → Child p n b → Under p b (node_of e) → b ≢ c → ¬ Before p b c → Dec (Before p c b) → ⊥
              go b hb ub k y (yes z) = not_yet hb fr i.beneath z x ub
              go b hb ub k y (no z) =
                  nu (silent_event e (un b hb (record { distinct = k; not_before = y; not_after = z }))
                  (enabled_of_kind p (execution_last p w fe)) ub)

      pair_fails : (c d : ℕ) → Child p n c → Child p n d → Before p d c → Must p d (ExternalPost p f (not v))
          → Must p c (ExternalPre p f v)
          → ((b : ℕ) → Child p n b → b ≢ c → b ≢ d → ¬ Before p b d → ¬ Before p c b → Silent p f b) → (h : History)
          → Completed p n h → Fails p f v h
      pair_fails c d hc hd dc ml mn others h wh = record {
        event = nx.event;
        before = i.before;
        at = i.at;
        needs = nx.needs;
        opposed = last_of_part f (not v) d i.before in_d (ml (part p w d i.before) whole_d);
      }
        where
          nx : ExternalPre p f v (part p w c h)
          nx = mn (part p w c h) (part_completed p w kn wh hc)

          i : InHistory c nx.event nx.before h
          i = in_history c nx.event nx.before h nx.at

          fr : Execution p n (nx.event ∷ i.before)
          fr = earlier_execution p w i.at wh.execution

          whole_d : Completed p d (part p w d i.before)
          whole_d = completed_before p w nx.event i.before hc fr i.beneath dc

          in_d : (e : Event) (s : History) → Earlier (e ∷ s) i.before → ¬ Unasserted p f e
              → Under p d (node_of e) ⊎ (part p w d s ≡ [])
          in_d e s x nu = where_is hd fe (λ b hb ub k y. go b hb ub k y (ℕ_discrete b c) (dec_before p w c b))
            where
              fe : Execution p n (e ∷ s)
              fe = earlier_execution p w x (execution_tail p w fr)

              in_part : {b : ℕ} → Under p b (node_of e) → b ≡ c → Earlier (e ∷ part p w c s) (part p w c i.before)
              in_part ub z = earlier_part (rw z at ub) x

              go : (b : ℕ) → Child p n b → Under p b (node_of e) → b ≢ d → ¬ Before p b d → Dec (b ≡ c)
                  → Dec (Before p c b) → ⊥
              go b hb ub k y (yes z) y₁ = nu (all_at {Q = Unasserted p f} (in_part ub z)
                  (rw i.same (unasserted_all p f nx.before nx.unasserted)))
              go b hb ub k y (no k') (yes z) = not_yet hb fr i.beneath z x ub
              go b hb ub k y (no k') (no z) = nu (silent_event e (others b hb k' k y z)
                  (enabled_of_kind p (execution_last p w fe)) ub)

    -- every completed execution of a node that must clobber fails
    pub must_clobber_fails : {n : ℕ} → MustClobber p f v n → (h : History) → Completed p n h → Fails p f v h
    must_clobber_fails (by_any_of k all) h wh = let (c, hc, x) = any_completed p w k wh in
        must_clobber_fails (all c hc) h x
    must_clobber_fails (by_child k c hc d un) h x =
        child_fails k c hc un h x.execution (must_clobber_fails d (part p w c h) (part_completed p w k x hc))
    must_clobber_fails (by_pair k c d hc hd q ml mn others) h wh = pair_fails k c d hc hd q ml mn others h wh

    -- doom implies may clash
    pub must_clobber_may : {n : ℕ} → Node p n → MustClobber p f v n → MayClobber p f v n
    must_clobber_may {n} l d = let (h, x) = completed_execution p w n l in let y : Fails p f v h = must_clobber_fails d
        h x in inl (record {
          history = y.before;
          event = y.event;
          execution = earlier_execution p w y.at
              x.execution;
          clobbers = precondition y.needs y.opposed;
        })
