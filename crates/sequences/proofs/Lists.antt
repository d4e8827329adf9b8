-- Places in a list: of two numbers in it one is ahead, and where no number comes twice, ahead is transitive.
use Rattle.runs.proofs.Base.{◌≡◌, refl, ◌⊎◌, inl, inr, List, [], ◌∷◌, Among, here, there, among_none}
use Rattle.runs.proofs.Base.{among_cases, ℕ}
use Rattle.sequences.specs.Sequences.{Ahead, at_front, further_on, Once}
use Rattle.sequences.specs.Model.{ahead_b}
use Rattle.runs.proofs.Calls.Listed.{r_listed}
use Rattle.runs.proofs.Reflect.{Reflects, r_map, r_both, r_either, r_eq}

pub ahead_inv : {a b x : ℕ} {xs : List ℕ} → Ahead a b (x ∷ xs) → ((a ≡ x) × Among b xs) ⊎ Ahead a b xs
ahead_inv (at_front i) = inl (refl, i)
ahead_inv (further_on q) = inr q

pub r_ahead : (xs : List ℕ) (a b : ℕ) → Reflects (ahead_b xs a b) (Ahead a b xs)
unfolding ahead_b
r_ahead [] a b = record { to = λ t. absurd t; from = elim [ ] }
r_ahead (x ∷ xs) a b = r_map (up, ahead_inv) (r_either _ _ (r_both _ _ (r_eq a x) (r_listed xs b)) (r_ahead xs a b))
  where
    up : ((a ≡ x) × Among b xs) ⊎ Ahead a b xs → Ahead a b (x ∷ xs)
    up (inl (e, i)) = rw e (at_front i)
    up (inr q) = further_on q

pub ahead_left : {a b : ℕ} {xs : List ℕ} → Ahead a b xs → Among a xs
ahead_left (at_front i) = here refl
ahead_left (further_on q) = there (ahead_left q)

pub ahead_right : {a b : ℕ} {xs : List ℕ} → Ahead a b xs → Among b xs
ahead_right (at_front i) = there i
ahead_right (further_on q) = there (ahead_right q)

-- of two numbers in a list one is ahead
pub ahead_either : {a b : ℕ} (xs : List ℕ) → Among a xs → Among b xs → (a ≡ b) ⊎ (Ahead a b xs ⊎ Ahead b a xs)
ahead_either [] i j = absurd (among_none i)
ahead_either {a} {b} (x ∷ xs) i j = go (among_cases i) (among_cases j) (ahead_either xs)
  where
    deeper : (a ≡ b) ⊎ (Ahead a b xs ⊎ Ahead b a xs) → (a ≡ b) ⊎ (Ahead a b (x ∷ xs) ⊎ Ahead b a (x ∷ xs))
    deeper (inl e) = inl e
    deeper (inr (inl q)) = inr (inl (further_on q))
    deeper (inr (inr q)) = inr (inr (further_on q))

    go : (a ≡ x) ⊎ Among a xs → (b ≡ x) ⊎ Among b xs
        → (Among a xs → Among b xs → (a ≡ b) ⊎ (Ahead a b xs ⊎ Ahead b a xs))
        → (a ≡ b) ⊎ (Ahead a b (x ∷ xs) ⊎ Ahead b a (x ∷ xs))
    go (inl e) (inl d) ih = inl (rw (e, d))
    go (inl e) (inr m) ih = inr (inl (rw e (at_front m)))
    go (inr m) (inl e) ih = inr (inr (rw e (at_front m)))
    go (inr m) (inr l) ih = deeper (ih m l)

pub once_tail : {x : ℕ} {xs : List ℕ} → Once (x ∷ xs) → Once xs
once_tail k c q = k c (further_on q)

pub ahead_trans : {a b c : ℕ} {xs : List ℕ} → Once xs → Ahead a b xs → Ahead b c xs → Ahead a c xs
ahead_trans k (at_front i) (at_front j) = at_front j
ahead_trans k (at_front i) (further_on r) = at_front (ahead_right r)
ahead_trans {b = b} k (further_on q) (at_front j) = absurd (k b (at_front (ahead_right q)))
ahead_trans k (further_on q) (further_on r) = further_on (ahead_trans (once_tail k) q r)

-- the first has nothing ahead of it
pub nothing_ahead : {d x : ℕ} {xs : List ℕ} → Once (x ∷ xs) → ¬ Ahead d x (x ∷ xs)
nothing_ahead {d} {x} {xs} k y = at (ahead_inv y)
  where
    at : ((d ≡ x) × Among x xs) ⊎ Ahead d x xs → ⊥
    at (inl (e, j)) = k x (at_front j)
    at (inr z) = k x (at_front (ahead_right z))
