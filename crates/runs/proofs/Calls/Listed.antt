-- Lists of numbers: what is among them, and lists that strictly rise.
use Rattle.runs.proofs.Base.{◌≡◌, refl, ◌≢◌, ◌⊎◌, inl, inr, Bool, true, false, List, [], ◌∷◌, Among, here, there}
use Rattle.runs.proofs.Base.{among_none, among_cases, ℕ, ◌<◌, arith, T, eqb}
use Rattle.runs.specs.Searches.{any_in, listed}
use Rattle.runs.specs.Calls.{SomeOf, Rising, empty, single, rising, NotRising}
use Rattle.runs.specs.Model.Monitor.{rising_b, not_rising_b}
use Rattle.runs.proofs.Reflect.{clash, Reflects, r_map, decided, r_both, r_either, r_false, r_negate, r_eq, r_lt}
use Rattle.runs.proofs.Reflect.{r_T, true_T, T_true}

-- a test of some number of a list
pub r_some_of : (P : ℕ → Type 0) (ts : List ℕ) (g : ℕ → Bool) → ((t : ℕ) → Reflects (g t) (P t))
    → Reflects (any_in ts g) (SomeOf ts P)
unfolding any_in
r_some_of P [] g r = r_false (λ x. among_none x.1)
r_some_of P (t ∷ ts) g r = r_map (to, λ x. from x.0 (among_cases x.1) x.2)
    (r_either _ _ (r t) (r_some_of P ts g r))
  where
    to : P t ⊎ SomeOf ts P → SomeOf (t ∷ ts) P
    to (inl x) = (t, here refl, x)
    to (inr (u, i, x)) = (u, there i, x)

    from : (u : ℕ) → (u ≡ t) ⊎ Among u ts → P u → P t ⊎ SomeOf ts P
    from u (inl q) x = inl (rw q at x)
    from u (inr i) x = inr (u, i, x)

pub r_listed : (ts : List ℕ) (x : ℕ) → Reflects (listed ts x) (Among x ts)
unfolding listed
r_listed ts x = r_map (λ y. rw y.2 y.1, λ i. (x, i, refl)) (r_some_of (λ t. x ≡ t) ts (eqb x) (λ t. r_eq x t))

-- tests that agree on the numbers of a list; a test that none of them passes
pub any_same : (ts : List ℕ) (g h : ℕ → Bool) → ((t : ℕ) → Among t ts → g t ≡ h t) → any_in ts g ≡ any_in ts h
unfolding any_in
any_same [] g h e = refl
any_same (t ∷ ts) g h e = rw (e t (here refl), any_same ts g h (λ x i. e x (there i)))

pub none_in : (ts : List ℕ) (g : ℕ → Bool) → any_in ts g ≡ false → (t : ℕ) → Among t ts → g t ≡ false
none_in ts g e t i = go (g t) refl
  where
    go : (v : Bool) → g t ≡ v → v ≡ false
    go false q = refl
    go true q = let z : any_in ts g ≡ true =
        T_true _ ((r_some_of (λ x. T (g x)) ts g (λ x. r_T (g x))).from (t, i, true_T _ q)) in clash cc

pub dec_among : (t : ℕ) (ts : List ℕ) → Dec (Among t ts)
dec_among t ts = decided (r_listed ts t)

pub r_rising : (ts : List ℕ) → Reflects (rising_b ts) (Rising ts)
unfolding rising_b
r_rising [] = record { to = λ x. empty; from = λ r. tt }
r_rising (t ∷ []) = record { to = λ x. single; from = λ r. tt }
r_rising (t ∷ u ∷ ts) = r_map (λ x. rising x.0 x.1, from) (r_both _ _ (r_lt t u) (r_rising (u ∷ ts)))
  where
    from : Rising (t ∷ u ∷ ts) → (t < u) × Rising (u ∷ ts)
    from (rising l r) = (l, r)

pub r_not_rising : (ts : List ℕ) → Reflects (not_rising_b ts) (NotRising ts)
unfolding not_rising_b
r_not_rising [] = record { to = λ x. inl refl; from = λ r. tt }
r_not_rising (t ∷ ts) = r_map (inr, from) (r_negate _ (r_rising (t ∷ ts)))
  where
    from : NotRising (t ∷ ts) → ¬ Rising (t ∷ ts)
    from (inl q) = clash cc
    from (inr k) = k

pub rises : {ts : List ℕ} → ¬ NotRising ts → Rising ts
rises {ts} k = go (decided (r_rising ts))
  where
    go : Dec (Rising ts) → Rising ts
    go (yes r) = r
    go (no n) = absurd (k (inr n))

-- no number of a rising list comes again
pub rising_above : {t u : ℕ} {ts : List ℕ} → Rising (t ∷ ts) → Among u ts → t < u
rising_above (rising l r) (here q) = rw q l
rising_above (rising l r) (there i) = omega (arith, l, rising_above r i)
rising_above single i = absurd (among_none i)

pub rising_tail : {t : ℕ} {ts : List ℕ} → Rising (t ∷ ts) → Rising ts
rising_tail single = empty
rising_tail (rising l r) = r

pub rising_once : {t : ℕ} {ts : List ℕ} → Rising (t ∷ ts) → ¬ Among t ts
rising_once r i = omega (arith, rising_above r i)

-- two different numbers as a rising list
pub record TwoOf (t u : ℕ) : Type 0 where
  pub list : List ℕ
  pub rises : ¬ NotRising list
  pub has_t : Among t list
  pub has_u : Among u list
  pub no_more : (x : ℕ) → Among x list → (x ≡ t) ⊎ (x ≡ u)

pub two_of : (t u : ℕ) → t ≢ u → TwoOf t u
two_of t u ne = go (decided (r_lt t u))
  where
    of_two : {a b x : ℕ} → Among x (a ∷ b ∷ []) → (x ≡ a) ⊎ (x ≡ b)
    of_two (here q) = inl q
    of_two (there (here q)) = inr q
    of_two (there (there i)) = absurd (among_none i)

    swap : {A B : Type 0} → A ⊎ B → B ⊎ A
    swap (inl a) = inr a
    swap (inr b) = inl b

    pair : {a b : ℕ} → a < b → ¬ NotRising (a ∷ b ∷ [])
    pair l (inl q) = clash cc
    pair l (inr k) = k (rising l single)

    go : Dec (t < u) → TwoOf t u
    go (yes l) = record {
      list = t ∷ u ∷ [];
      rises = pair l;
      has_t = here refl;
      has_u = there (here refl);
      no_more = λ x i. of_two i;
    }
    go (no k) = let l : u < t = omega (arith, ne, k) in record {
      list = u ∷ t ∷ [];
      rises = pair l;
      has_t = there (here refl);
      has_u = here refl;
      no_more = λ x i. swap (of_two i);
    }
