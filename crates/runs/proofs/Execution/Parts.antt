-- The part of a history that falls under a node: it has the states there, and is an execution of that node.
use Rattle.runs.proofs.Base.{◌≡◌, refl, sym, ap, ◌∙◌, ◌≢◌, ◌↔◌, [], ◌∷◌, ◌++◌, ℕ}
use Rattle.runs.specs.Plan.{Plan, Child, Under}
use Rattle.runs.specs.WellFormed.{WellFormed}
use Rattle.runs.specs.Execution.{Event, History, node_of, status_after, Complete, Enabled, Execution, none_yet}
use Rattle.runs.specs.Execution.{one_more, Earlier, none_later, one_later}
use Rattle.runs.proofs.Plan.{one_branch, dec_under}
use Rattle.runs.specs.Classes.{All, all_nil, all_cons}
use Rattle.runs.proofs.Execution.Histories.{after_other, after_cong}
use Rattle.runs.proofs.Execution.Locality.{Agree, agree_sym, complete_local, enabled_local, enabled_under}
use Rattle.runs.proofs.Execution.Locality.{enabled_down}

abbrev keep : {A : Type 0} → Dec A → Event → History → History
keep (yes a) e l = e ∷ l
keep (no k) e l = l

keep_yes : {A : Type 0} (d : Dec A) (e : Event) (l : History) → A → keep d e l ≡ e ∷ l
keep_yes (yes a) e l x = refl
keep_yes (no k) e l x = absurd (k x)

keep_no : {A : Type 0} (d : Dec A) (e : Event) (l : History) → ¬ A → keep d e l ≡ l
keep_no (yes a) e l x = absurd (x a)
keep_no (no k) e l x = refl

module _ (p : Plan) (w : WellFormed p) where
  -- the events of a history that fall under c
  pub part : ℕ → History → History
  part c [] = []
  part c (e ∷ h) = keep (dec_under p w c (node_of e)) e (part c h)

  pub part_nil : (c : ℕ) → part c [] ≡ []
  unfolding part
  part_nil c = refl

  pub part_in : (c : ℕ) (e : Event) (h : History) → Under p c (node_of e) → part c (e ∷ h) ≡ e ∷ part c h
  unfolding part
  part_in c e h u = keep_yes (dec_under p w c (node_of e)) e (part c h) u

  pub part_out : (c : ℕ) (e : Event) (h : History) → ¬ Under p c (node_of e) → part c (e ∷ h) ≡ part c h
  unfolding part
  part_out c e h n = keep_no (dec_under p w c (node_of e)) e (part c h) n

  -- the part has the states under c
  pub after_part : (c : ℕ) (h : History) → Agree p c (status_after (part c h)) (status_after h)
  after_part c [] x u = rw part_nil
  after_part c (e ∷ h) x u = go (dec_under p w c (node_of e)) (after_part c h x u)
    where
      go : Dec (Under p c (node_of e)) → status_after (part c h) x ≡ status_after h x
          → status_after (part c (e ∷ h)) x ≡ status_after (e ∷ h) x
      go (yes v) ih = rw (part_in c e h v) (after_cong e (part c h) h x ih)
      go (no k) ih = rw (part_out c e h k) (ih ∙ sym (after_other e h x (λ q. k (rw q at u))))

  -- the part of an execution under a node is an execution of that node
  pub part_execution : {n c : ℕ} {h : History} → Under p n c → Execution p n h → Execution p c (part c h)
  part_execution {n} {c} u none_yet = rw part_nil none_yet
  part_execution {n} {c} u (one_more {e = e} {h = h} r m) = go (dec_under p w c (node_of e)) (part_execution u r)
    where
      go : Dec (Under p c (node_of e)) → Execution p c (part c h) → Execution p c (part c (e ∷ h))
      go (yes v) ih = rw (part_in c e h v) (one_more ih (enabled_local p (status_after h) (status_after (part c h))
          (agree_sym p c (status_after (part c h)) (status_after h) (after_part c h))
          (enabled_down p (status_after h) u v m)))
      go (no k) ih = rw (part_out c e h k) ih

  -- and the node is complete after its part exactly if it is after the whole history
  pub part_complete : (c : ℕ) (h : History) → Complete p (status_after h) c ↔ Complete p (status_after (part c h)) c
  part_complete c h = (
    complete_local p (status_after h) (status_after (part c h))
        (agree_sym p c (status_after (part c h)) (status_after h) (after_part c h)),
    complete_local p (status_after (part c h)) (status_after h) (after_part c h),
  )

  -- the earlier stages of an execution are executions
  pub execution_tail : {n : ℕ} {e : Event} {h : History} → Execution p n (e ∷ h) → Execution p n h
  execution_tail (one_more f m) = f

  pub execution_last : {n : ℕ} {e : Event} {h : History} → Execution p n (e ∷ h) → Enabled p n (status_after h) e
  execution_last (one_more f m) = m

  pub earlier_execution : {n : ℕ} {r h : History} → Earlier r h → Execution p n h → Execution p n r
  earlier_execution none_later f = f
  earlier_execution (one_later q) f = earlier_execution q (execution_tail f)

  pub part_tail : {n : ℕ} (c : ℕ) (e : Event) (h : History) → Execution p n (part c (e ∷ h)) → Execution p n (part c h)
  part_tail {n} c e h f = go (dec_under p w c (node_of e))
    where
      go : Dec (Under p c (node_of e)) → Execution p n (part c h)
      go (yes u) = execution_tail (rw (part_in c e h u) at f)
      go (no k) = rw (part_out c e h k) at f

  abbrev pub UnderEv : ℕ → Event → Type 0
  UnderEv c e = Under p c (node_of e)

  pub execution_under : {n : ℕ} {h : History} → Execution p n h → All (UnderEv n) h
  execution_under none_yet = all_nil
  execution_under (one_more f m) = all_cons (enabled_under p m) (execution_under f)

  pub part_append : (c : ℕ) (g h : History) → part c (g ++ h) ≡ part c g ++ part c h
  part_append c [] h = rw (part_nil c)
  part_append c (e ∷ g) h = go (dec_under p w c (node_of e)) (part_append c g h)
    where
      go : Dec (Under p c (node_of e)) → part c (g ++ h) ≡ part c g ++ part c h
          → part c (e ∷ (g ++ h)) ≡ part c (e ∷ g) ++ part c h
      go (yes u) ih = rw (part_in c e (g ++ h) u, part_in c e g u, ih)
      go (no k) ih = rw (part_out c e (g ++ h) k, part_out c e g k, ih)

  pub part_own : {c : ℕ} {g : History} → All (UnderEv c) g → part c g ≡ g
  part_own {c} all_nil = part_nil c
  part_own {c} (all_cons {e = e} {h = g} u a) = part_in c e g u ∙ ap (λ l. e ∷ l) (part_own a)

  pub part_other : {n b c : ℕ} {g : History} → Child p n b → Child p n c → b ≢ c → All (UnderEv b) g → part c g ≡ []
  part_other {n} {b} {c} hb hc ne all_nil = part_nil c
  part_other {n} {b} {c} hb hc ne (all_cons {e = e} {h = g} u a) = part_out c e g (λ v. ne (one_branch p w hb hc u v))
      ∙ part_other hb hc ne a

  pub part_all : {Q : Event → Type 0} (c : ℕ) {h : History} → All Q h → All Q (part c h)
  part_all {Q} c all_nil = rw (part_nil c) all_nil
  part_all {Q} c (all_cons {e = e} {h = h} q a) = go (dec_under p w c (node_of e)) (part_all c a)
    where
      go : Dec (Under p c (node_of e)) → All Q (part c h) → All Q (part c (e ∷ h))
      go (yes u) ih = rw (part_in c e h u) (all_cons q ih)
      go (no k) ih = rw (part_out c e h k) ih
