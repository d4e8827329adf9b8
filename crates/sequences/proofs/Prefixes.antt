-- A sequence that passes, made node by node: each is a child of the root, not yet seen, with all that is ordered before
-- it seen, and safe.
use Rattle.runs.proofs.Base.{◌≡◌, ◌⊎◌, inl, inr, ◌↔◌, refl, Bool, List, [], ◌∷◌, Among, here, there, among_none}
use Rattle.runs.proofs.Base.{among_cases, ℕ, T}
use Rattle.runs.specs.Plan.{Plan, Child, Before, direct}
use Rattle.sequences.specs.Sequences.{Ahead, at_front, further_on, Sequence}
use Rattle.sequences.specs.Model.{SafeAlong, end, step, Rest, all_seen, then}
use Rattle.sequences.proofs.Serial.{ahead_of}
use Rattle.sequences.proofs.Lists.{ahead_inv, once_tail, nothing_ahead}
use Rattle.sequences.specs.Sequences.{Once}

module _ (p : Plan) (F : ℕ → Bool) where
  rest_passes : {seen xs : List ℕ} → Rest p F seen xs → SafeAlong p F seen xs
  rest_passes (all_seen g) = end
  rest_passes (then m r) = step m.safe (rest_passes r)

  rest_child : {seen xs : List ℕ} → Rest p F seen xs → (c : ℕ) → Among c xs → Child p 0 c
  rest_child (all_seen g) c i = absurd (among_none i)
  rest_child (then {c = x} {xs = xs} m r) c i = at (among_cases i) (rest_child r c)
    where
      at : (c ≡ x) ⊎ Among c xs → (Among c xs → Child p 0 c) → Child p 0 c
      at (inl e) ih = rw e m.child
      at (inr j) ih = ih j

  rest_every : {seen xs : List ℕ} → Rest p F seen xs → (c : ℕ) → Child p 0 c → Among c seen ⊎ Among c xs
  rest_every (all_seen g) c hc = inl (g c hc)
  rest_every {seen} (then {c = x} {xs = xs} m r) c hc = at (rest_every r c hc)
    where
      here_or_later : (c ≡ x) ⊎ Among c seen → Among c seen ⊎ Among c (x ∷ xs)
      here_or_later (inl e) = inr (here e)
      here_or_later (inr i) = inl i

      at : Among c (x ∷ seen) ⊎ Among c xs → Among c seen ⊎ Among c (x ∷ xs)
      at (inl i) = here_or_later (among_cases i)
      at (inr i) = inr (there i)

  rest_new : {seen xs : List ℕ} → Rest p F seen xs → (c : ℕ) → Among c xs → ¬ Among c seen
  rest_new (all_seen g) c i j = among_none i
  rest_new {seen} (then {c = x} {xs = xs} m r) c i j = at (among_cases i) (λ k. rest_new r c k (there j))
    where
      at : (c ≡ x) ⊎ Among c xs → (Among c xs → ⊥) → ⊥
      at (inl e) ih = m.new (rw e at j)
      at (inr k) ih = ih k

  rest_once : {seen xs : List ℕ} → Rest p F seen xs → Once xs
  rest_once (all_seen _) c x = elim x [ ]
  rest_once (then m r) c (at_front i) = rest_new r c i (here refl)
  rest_once (then m r) c (further_on y) = rest_once r c y

  rest_agrees : {seen xs : List ℕ} → Rest p F seen xs → (a b : ℕ) → Among b xs → T (p.order a b)
      → Among a seen ⊎ Ahead a b xs
  rest_agrees (all_seen g) a b i o = absurd (among_none i)
  rest_agrees {seen} (then {c = x} {xs = xs} m r) a b i o = at (among_cases i) (λ k. rest_agrees r a b k o)
    where
      here_or_later : Among b xs → (a ≡ x) ⊎ Among a seen → Among a seen ⊎ Ahead a b (x ∷ xs)
      here_or_later k (inl e) = inr (rw e (at_front k))
      here_or_later k (inr j) = inl j

      further : Among b xs → Among a (x ∷ seen) ⊎ Ahead a b xs → Among a seen ⊎ Ahead a b (x ∷ xs)
      further k (inl j) = here_or_later k (among_cases j)
      further k (inr y) = inr (further_on y)

      at : (b ≡ x) ⊎ Among b xs → (Among b xs → Among a (x ∷ seen) ⊎ Ahead a b xs) → Among a seen ⊎ Ahead a b (x ∷ xs)
      at (inl e) ih = inl (m.ordered a (direct (rw e at o)))
      at (inr k) ih = further k (ih k)

  unseen : {A : Type 0} {a : ℕ} → Among a [] ⊎ A → A
  unseen (inl i) = absurd (among_none i)
  unseen (inr x) = x

  rest_sequence : {xs : List ℕ} → Rest p F [] xs → Sequence p xs
  rest_sequence r = record {
    child = rest_child r;
    every = λ c hc. unseen (rest_every r c hc);
    once = rest_once r;
    agrees = λ a b hb o. unseen (rest_agrees r a b (unseen (rest_every r b hb)) o);
  }

  -- the other way round, from any place on
  record Onward (seen xs : List ℕ) : Type 0 where
    child : (c : ℕ) → Among c xs → Child p 0 c
    every : (c : ℕ) → Child p 0 c → Among c seen ⊎ Among c xs
    new : (c : ℕ) → Among c xs → ¬ Among c seen
    once : Once xs
    agrees : (a b : ℕ) → Among b xs → Before p a b → Among a seen ⊎ Ahead a b xs

  onward_rest : {seen xs : List ℕ} → Onward seen xs → SafeAlong p F seen xs → Rest p F seen xs
  onward_rest {seen} s end = all_seen (λ c hc. at (s.every c hc))
    where
      at : {c : ℕ} → Among c seen ⊎ Among c [] → Among c seen
      at (inl i) = i
      at (inr i) = absurd (among_none i)
  onward_rest {seen} s (step {c = x} {xs = xs} safe ps) = then
      (record {
        child = s.child x (here refl);
        new = s.new x (here refl);
        ordered = λ a o. earlier a (s.agrees a x (here refl) o);
        safe = safe;
      })
      (onward_rest (record {
        child = λ c i. s.child c (there i);
        every = λ c hc. every c (s.every c hc);
        new = λ c i j. new c i (among_cases j);
        once = once_tail s.once;
        agrees = λ a b i o. agrees a b (s.agrees a b (there i) o);
      }) ps)
    where
      earlier : (a : ℕ) → Among a seen ⊎ Ahead a x (x ∷ xs) → Among a seen
      earlier a (inl i) = i
      earlier a (inr y) = absurd (nothing_ahead s.once y)

      every : (c : ℕ) → Among c seen ⊎ Among c (x ∷ xs) → Among c (x ∷ seen) ⊎ Among c xs
      every c (inl i) = inl (there i)
      every c (inr i) = at (among_cases i)
        where
          at : (c ≡ x) ⊎ Among c xs → Among c (x ∷ seen) ⊎ Among c xs
          at (inl e) = inl (here e)
          at (inr j) = inr j

      new : (c : ℕ) → Among c xs → (c ≡ x) ⊎ Among c seen → ⊥
      new c i (inl e) = s.once x (at_front (rw e at i))
      new c i (inr j) = s.new c (there i) j

      agrees : (a b : ℕ) → Among a seen ⊎ Ahead a b (x ∷ xs) → Among a (x ∷ seen) ⊎ Ahead a b xs
      agrees a b (inl i) = inl (there i)
      agrees a b (inr y) = at (ahead_inv y)
        where
          at : ((a ≡ x) × Among b xs) ⊎ Ahead a b xs → Among a (x ∷ seen) ⊎ Ahead a b xs
          at (inl (e, i)) = inl (here e)
          at (inr z) = inr z

  pub sequence_rest : (xs : List ℕ) → Rest p F [] xs ↔ (Sequence p xs × SafeAlong p F [] xs)
  sequence_rest xs = (
    λ r. (rest_sequence r, rest_passes r),
    λ x. onward_rest (record {
      child = x.0.child;
      every = λ c hc. inr (x.0.every c hc);
      new = λ c i j. among_none j;
      once = x.0.once;
      agrees = λ a b i o. inr (ahead_of p xs x.0 i o);
    }) x.1,
  )
