-- The first check that applies: its computation reflects 01's words, and one call has one return and one state after
-- it.
use Rattle.runs.proofs.Base.{◌≡◌, refl, sym, ap, ◌∙◌, inl, inr, ◌⊎◌, ◌↔◌, Bool, true, false, decide, Option}
use Rattle.runs.proofs.Base.{none, some, List, [], ◌∷◌, ◌++◌, ℕ, T, eqb}
use Rattle.runs.specs.Searches.{either}
use Rattle.runs.specs.Plan.{Plan}
use Rattle.runs.specs.WellFormed.{WellFormed}
use Rattle.runs.specs.Calls.{Call, events, World, happen_all, Refusal, no_task, wrong_status, branch_begun}
use Rattle.runs.specs.Calls.{order_open, pre_unmet, inc_broken, no_optional, not_rising, post_opposed, number}
use Rattle.runs.specs.Calls.{Applies, checks, First, None, Answered, accepted, refused, Worked, no_calls}
use Rattle.runs.specs.Calls.{next_call, Refusal-discrete}
use Rattle.runs.specs.Model.Monitor.{applies_b, or_else, first_of, refusal_number, settle, refusal_of, returned, step}
use Rattle.runs.specs.Model.Monitor.{returns, states}
use Rattle.runs.proofs.Reflect.{r_either, r_decide, r_T, clash, Reflects}
use Rattle.runs.proofs.Calls.Reflect.{r_applies}

-- over any rows A with tests g
module _ (A : Refusal → Type 0) (g : Refusal → Bool) (r : (x : Refusal) → Reflects (g x) (A x)) where
  applies : (q : Refusal) → g q ≡ true → A q
  applies q z = (r q).to (rw z tt)

  applies_not : (q : Refusal) → g q ≡ false → ¬ A q
  applies_not q z a = let y : T (g q) = (r q).from a in rw z at y

  first_is : (x : Refusal) (l : List Refusal) → (first_of g l ≡ some x) ↔ First A x l
  unfolding first_of
  first_is x [] = (λ q. clash cc, λ t. absurd t)
  first_is x (q ∷ l) = go (g q) refl (first_is x l)
    where
      go : (b : Bool) → g q ≡ b → ((first_of g l ≡ some x) ↔ First A x l)
          → (or_else b q (λ u. first_of g l) ≡ some x) ↔ First A x (q ∷ l)
      go true z ih = (λ e. let y : q ≡ x = cc in inl (y, rw y at (applies q z)), from)
        where
          from : First A x (q ∷ l) → some q ≡ some x
          from (inl (e, a)) = ap some e
          from (inr (k, t)) = absurd (k (applies q z))
      go false z ih = (λ e. inr (applies_not q z, ih.0 e), from)
        where
          from : First A x (q ∷ l) → first_of g l ≡ some x
          from (inl (e, a)) = absurd (applies_not q z (rw (← e) at a))
          from (inr (k, t)) = ih.1 t

  none_is : (l : List Refusal) → (first_of g l ≡ none) ↔ None A l
  unfolding first_of
  none_is [] = (λ q. tt, λ t. refl)
  none_is (q ∷ l) = go (g q) refl (none_is l)
    where
      go : (b : Bool) → g q ≡ b → ((first_of g l ≡ none) ↔ None A l)
          → (or_else b q (λ u. first_of g l) ≡ none) ↔ None A (q ∷ l)
      go true z ih = (λ e. clash cc, λ t. absurd (t.0 (applies q z)))
      go false z ih = (λ e. (applies_not q z, ih.0 e), λ t. ih.1 t.1)

-- over any rows A, and two lists of checks one after the other
module _ (A : Refusal → Type 0) where
  pub none_append : (l k : List Refusal) → None A (l ++ k) ↔ (None A l × None A k)
  none_append [] k = (λ x. (tt, x), λ x. x.1)
  none_append (q ∷ l) k = let e = none_append l k in
      (λ x. let y = e.0 x.1 in ((x.0, y.0), y.1), λ x. (x.0.0, e.1 (x.0.1, x.1)))

  pub first_append : (r : Refusal) (l k : List Refusal) → First A r (l ++ k) → First A r l ⊎ (None A l × First A r k)
  first_append r [] k x = inr (tt, x)
  first_append r (q ∷ l) k (inl y) = inl (inl y)
  first_append r (q ∷ l) k (inr (n, x)) = at (first_append r l k x)
    where
      at : First A r l ⊎ (None A l × First A r k) → First A r (q ∷ l) ⊎ (None A (q ∷ l) × First A r k)
      at (inl y) = inl (inr (n, y))
      at (inr (m, y)) = inr ((n, m), y)

  pub first_not_none : (r : Refusal) (l : List Refusal) → First A r l → None A l → ⊥
  first_not_none r [] x n = x
  first_not_none r (q ∷ l) (inl (e, a)) n = n.0 (rw (← e) at a)
  first_not_none r (q ∷ l) (inr (k, x)) n = first_not_none r l x n.1

-- what is first in a list is in it
unfoldable pub member_b : Refusal → List Refusal → Bool
member_b r [] = false
member_b r (q ∷ l) = either (decide (Refusal-discrete q r)) (λ u. member_b r l)

pub first_member : (A : Refusal → Type 0) (r : Refusal) (l : List Refusal) → First A r l → T (member_b r l)
unfolding member_b
first_member A r [] x = x
first_member A r (q ∷ l) x = (r_either _ _ (r_decide (Refusal-discrete q r)) (r_T (member_b r l))).from
    (at x (first_member A r l))
  where
    at : First A r (q ∷ l) → (First A r l → T (member_b r l)) → (q ≡ r) ⊎ T (member_b r l)
    at (inl (e, a)) ih = inl e
    at (inr (k, y)) ih = inr (ih y)

-- the number tells the refusal
of_number : ℕ → Option Refusal
unfolding first_of
of_number n = first_of (λ r. eqb (number r) n) (no_task ∷ wrong_status ∷ branch_begun ∷ order_open ∷ pre_unmet
    ∷ inc_broken ∷ no_optional ∷ not_rising ∷ post_opposed ∷ [])

number_tells : (o : Option Refusal) → of_number (refusal_number o) ≡ o
unfolding of_number
number_tells none = refl
number_tells (some no_task) = refl
number_tells (some wrong_status) = refl
number_tells (some branch_begun) = refl
number_tells (some order_open) = refl
number_tells (some pre_unmet) = refl
number_tells (some inc_broken) = refl
number_tells (some no_optional) = refl
number_tells (some not_rising) = refl
number_tells (some post_opposed) = refl

pub number_inj : {o x : Option Refusal} → refusal_number o ≡ refusal_number x → o ≡ x
number_inj {o} {x} q = sym (number_tells o) ∙ ap of_number q ∙ number_tells x

module _ (whole p : Plan) (w : WellFormed p) (a : World) (c : Call) where
  -- a call is refused for the first of its checks that applies, and accepted exactly if none does
  pub refused_first : (r : Refusal) → (refusal_of whole p a c ≡ some r) ↔ First (Applies whole p a c) r (checks c)
  unfolding refusal_of
  refused_first r = first_is (Applies whole p a c) (applies_b whole p a c) (r_applies whole p w a c) r (checks c)

  pub refused_none : (refusal_of whole p a c ≡ none) ↔ None (Applies whole p a c) (checks c)
  unfolding refusal_of
  refused_none = none_is (Applies whole p a c) (applies_b whole p a c) (r_applies whole p w a c) (checks c)

  -- what is computed for a call is what 01 says of it, and there is nothing else
  pub answered : Answered whole p a c (returned whole p a c) (step whole p a c)
  unfolding returned step
  answered = go (refusal_of whole p a c) refl
    where
      go : (o : Option Refusal) → refusal_of whole p a c ≡ o
          → Answered whole p a c (refusal_number o) (settle o a (happen_all p a (events c)))
      go none q = accepted (refused_none.0 q)
      go (some r) q = refused r ((refused_first r).0 q)

  pub answered_only : {n : ℕ} {b : World} → Answered whole p a c n b
      → (n ≡ returned whole p a c) × (b ≡ step whole p a c)
  unfolding returned step
  answered_only (accepted k) = let q : refusal_of whole p a c ≡ none = refused_none.1 k in (rw q, rw q)
  answered_only (refused r k) = let q : refusal_of whole p a c ≡ some r = (refused_first r).1 k in (rw q, rw q)

module _ (whole p : Plan) (w : WellFormed p) where
  -- the same for lists of calls
  pub worked : (a : World) (cs : List Call) → Worked whole p a cs (returns whole p a cs) (states whole p a cs)
  unfolding returns states
  worked a [] = no_calls
  worked a (c ∷ cs) = next_call (answered whole p w a c) (worked (step whole p a c) cs)

  pub worked_only : {a z : World} {cs : List Call} {ns : List ℕ} → Worked whole p a cs ns z
      → (ns ≡ returns whole p a cs) × (z ≡ states whole p a cs)
  unfolding returns states
  worked_only no_calls = (refl, refl)
  worked_only (next_call {a = a} {b = b} {z = z} {c = c} {cs = cs} {n = n} {ns = ns} x y) =
      at (answered_only whole p w a c x) (worked_only y)
    where
      at : (n ≡ returned whole p a c) × (b ≡ step whole p a c) → (ns ≡ returns whole p b cs) × (z ≡ states whole p b cs)
          → (n ∷ ns ≡ returned whole p a c ∷ returns whole p (step whole p a c) cs)
          × (z ≡ states whole p (step whole p a c) cs)
      at (e, f) (g, h) = (rw (e, g, f), h ∙ ap (λ b. states whole p b cs) f)
