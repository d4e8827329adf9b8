-- The ordinals of starts: after any list of calls, a task's ordinal is the position of its start among the accepted
-- starts of the list.
use Rattle.runs.proofs.Base.{◌≡◌, refl, sym, ap, ◌∙◌, ◌≢◌, ◌⊎◌, inl, inr, ◌↔◌, Bool, false, none, some, List, []}
use Rattle.runs.proofs.Base.{◌∷◌, ◌++◌, append-nil, append_assoc, ℕ, suc, ◌<◌, arith, ℕ_discrete, eqb, get_or}
use Rattle.runs.proofs.Base.{cond, length, Among, here, there}
use mathlib.Core.Logic.{by_cases}
use native.Mathlib.Decide.{dec_lt}
use lib.ListN.{length-append, get_or-append}
use lib.Seq.{get_or-append_seam}
use borrow.Author.Tests.{eq-eqb, ne_eqb}
use Rattle.runs.specs.Plan.{Plan}
use Rattle.runs.specs.Execution.{Status, waiting, running, Status-discrete, start, finish, skip}
use Rattle.runs.specs.Calls.{Call, one, together, finishes, World, fresh, happen, happen_all, Refusal, number}
use Rattle.runs.specs.Calls.{Task, Answered, accepted, refused, started_by, Worked, no_calls, next_call}
use Rattle.runs.specs.Calls.{accepted_starts}
use Rattle.runs.specs.Demand3.{Numbered}
use Rattle.runs.proofs.Reflect.{clash}
use Rattle.runs.proofs.Calls.First.{number_inj}
use Rattle.runs.proofs.Calls.Together.{begun_stays}

-- a fact that is not absent, and can be told
found : {A : Type 0} → Dec A → ¬ ¬ A → A
found (yes x) n = x
found (no m) n = absurd (n m)

-- a list with one element more at its end
module _ (l : List ℕ) (t : ℕ) where
  one_longer : length (l ++ (t ∷ [])) ≡ suc (length l)
  one_longer = length-append l (t ∷ []) ∙ omega arith

  at_end : (k : ℕ) → k ≡ length l → get_or (l ++ (t ∷ [])) k 0 ≡ t
  at_end k e = rw e (get_or-append_seam l t [] 0)

  -- the elements before the last are those of the list
  before_end : (x k : ℕ) → t ≢ x → (k < length (l ++ (t ∷ []))) × (get_or (l ++ (t ∷ [])) k 0 ≡ x)
      → (k < length l) × (get_or l k 0 ≡ x)
  before_end x k n (m, e) =
      by_cases (dec_lt k (length l))
      (λ (j : k < length l). (j, sym (get_or-append l (t ∷ []) 0 k j) ∙ e))
      (λ j. absurd (n (sym (at_end k (omega (arith, one_longer))) ∙ e)))

  still_there : (x k : ℕ) → (k < length l) × (get_or l k 0 ≡ x)
      → (k < length (l ++ (t ∷ []))) × (get_or (l ++ (t ∷ [])) k 0 ≡ x)
  still_there x k (m, e) = (omega (arith, one_longer), get_or-append l (t ∷ []) 0 k m ∙ e)

module _ (whole p : Plan) (l : List ℕ) (a : World) (h : Numbered whole l a) (t : ℕ) where
  -- a task that does not wait has an ordinal
  begun_numbered : {s : Status} → ¬ ¬ Task whole t → s ≢ waiting → ¬ ((s ≡ waiting) ⊎ (¬ Task whole t))
  begun_numbered k n (inl e) = n e
  begun_numbered k n (inr m) = k m

  -- a start takes the next position
  start_numbered : ¬ ¬ Task whole t → a.status t ≡ waiting → Numbered whole (l ++ (t ∷ [])) (happen p a (start t))
  start_numbered y s = record {
    counts = ap suc h.counts ∙ sym (one_longer l t);
    position = λ x k. by_cases (ℕ_discrete x t) (λ (e : x ≡ t). rw (e, eq-eqb t t refl) (own k))
        (λ n. rw (ne_eqb x t n) (other x k n));
    unstarted = λ x. by_cases (ℕ_discrete x t)
        (λ (e : x ≡ t). rw (eq-eqb x t e, e) (
          λ z. absurd (omega arith),
          λ z. absurd (begun_numbered y (λ q. clash cc) z),
        ))
        (λ n. rw (ne_eqb x t n) (h.unstarted x));
  }
    where
      -- t was not in the list
      new : (k : ℕ) → k < length l → get_or l k 0 ≡ t → ⊥
      new k m e = omega (arith, (h.unstarted t).1 (inl s), (h.position t k).1 (m, e))

      own : (k : ℕ) → (suc a.starts ≡ suc k) ↔ ((k < length (l ++ (t ∷ []))) × (get_or (l ++ (t ∷ [])) k 0 ≡ t))
      own k = (
        λ e. (omega (arith, h.counts, one_longer l t), at_end l t k (omega (arith, h.counts))),
        λ (m, e).
            by_cases (dec_lt k (length l))
            (λ (j : k < length l). absurd (new k j (sym (get_or-append l (t ∷ []) 0 k j) ∙ e)))
            (λ j. omega (arith, h.counts, one_longer l t)),
      )

      other : (x k : ℕ) → x ≢ t
          → (a.ordinal x ≡ suc k) ↔ ((k < length (l ++ (t ∷ []))) × (get_or (l ++ (t ∷ [])) k 0 ≡ x))
      other x k n = (
        λ e. still_there l t x k ((h.position x k).0 e),
        λ w. (h.position x k).1 (before_end l t x k (λ z. n (sym z)) w),
      )

  -- a finish takes none
  finish_numbered : ¬ ¬ Task whole t → a.status t ≢ waiting → Numbered whole l (happen p a (finish t))
  finish_numbered y s = record {
    counts = h.counts;
    position = h.position;
    unstarted = λ x. by_cases (ℕ_discrete x t)
        (λ (e : x ≡ t). rw (eq-eqb x t e, e) (
          λ z. absurd (begun_numbered y s ((h.unstarted t).0 z)),
          λ z. absurd (begun_numbered y (λ q. clash cc) z),
        ))
        (λ n. rw (ne_eqb x t n) (h.unstarted x));
  }

  -- nor does a skip: an optional group is no task
  skip_numbered : ¬ Task whole t → Numbered whole l (happen p a (skip t))
  skip_numbered y = record {
    counts = h.counts;
    position = h.position;
    unstarted = λ x. by_cases (ℕ_discrete x t)
        (λ (e : x ≡ t). rw (eq-eqb x t e, e) (λ z. inr y, λ z. (h.unstarted t).1 (inr y)))
        (λ n. rw (ne_eqb x t n) (h.unstarted x));
  }

-- nor do several finishes
finishes_numbered : (whole p : Plan) (l : List ℕ) (a : World) → Numbered whole l a → (ts : List ℕ)
    → ((t : ℕ) → Among t ts → (¬ ¬ Task whole t) × (a.status t ≢ waiting))
    → Numbered whole l (happen_all p a (finishes ts))
finishes_numbered whole p l a h [] y = h
finishes_numbered whole p l a h (t ∷ ts) y = finish_numbered whole p l (happen_all p a (finishes ts))
    (finishes_numbered whole p l a h ts (λ u i. y u (there i))) t (y t (here refl)).0
    (begun_stays p a ts t (y t (here refl)).1)

-- what runs does not wait
running_begun : {s : Status} → ¬ (s ≢ running) → s ≢ waiting
running_begun k q = k (λ z. let e = sym z ∙ q in clash cc)

-- no refusal has the number 0
number_some : (r : Refusal) → eqb (number r) 0 ≡ false
number_some r = ne_eqb (number r) 0 (λ q. let e = number_inj {o = some r} {x = none} q in clash cc)

module _ (whole p : Plan) where
  -- one call after starts in the order of l
  answered_numbered : {a : World} {c : Call} {n : ℕ} {b : World} (l : List ℕ) → Answered whole p a c n b
      → Numbered whole l a
      → Numbered whole (l ++ cond (eqb n 0) (started_by c) []) b
  answered_numbered {a = a} {c = one (start t)} l (accepted k) h =
      start_numbered whole p l a h t k.0 (found (Status-discrete _ _) k.1.0)
  answered_numbered {a = a} {c = one (finish t)} l (accepted k) h = rw (append-nil l)
      (finish_numbered whole p l a h t k.0 (running_begun (λ n. k.1.0 (inr n))))
  answered_numbered {a = a} {c = one (skip g)} l (accepted k) h = rw (append-nil l)
      (skip_numbered whole p l a h g (λ y. k.0 (λ o. let q = sym y.is_task ∙ o.is_optional in clash cc)))
  answered_numbered {a = a} {c = together ts} l (accepted k) h = rw (append-nil l)
      (finishes_numbered whole p l a h ts
      (λ t i. (λ n. k.1.0 (t, i, n), running_begun (λ n. k.1.1.0 (t, i, inr n)))))
  answered_numbered l (refused r k) h = rw (number_some r, append-nil l) h

  -- calls after starts in the order of l
  pub worked_numbered : {a z : World} {cs : List Call} {ns : List ℕ} (l : List ℕ) → Worked whole p a cs ns z
      → Numbered whole l a
      → Numbered whole (l ++ accepted_starts cs ns) z
  unfolding accepted_starts
  worked_numbered l no_calls h = rw (append-nil l) h
  worked_numbered l (next_call {c = c} {cs = cs} {n = n} {ns = ns} x w) h =
      rw (← append_assoc l (cond (eqb n 0) (started_by c) []) (accepted_starts cs ns))
      (worked_numbered (l ++ cond (eqb n 0) (started_by c) []) w (answered_numbered l x h))

  -- and after no start
  pub fresh_numbered : (F : ℕ → Bool) → Numbered whole [] (fresh F)
  fresh_numbered F = record {
    counts = refl;
    position = λ x k. (λ e. absurd (omega arith), λ w. absurd (omega (arith, w.0)));
    unstarted = λ x. (λ e. inl refl, λ e. refl);
  }
