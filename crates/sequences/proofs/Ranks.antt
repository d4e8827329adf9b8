-- How many numbers below n pass a test; a strict relation ranks the numbers by how many stand before each.
use Rattle.runs.proofs.Base.{◌≡◌, refl, Bool, true, false, ℕ, zero, suc, ◌+◌, ◌<◌, ◌≤◌, arith, ℕ_discrete}
use Rattle.runs.proofs.Base.{T}
use Rattle.base.specs.Count.{num, count_below}

one_le : (x y : Bool) → (T x → T y) → num x ≤ num y
one_le true true g = omega arith
one_le true false g = absurd (g tt)
one_le false true g = omega arith
one_le false false g = omega arith

one_lt : (x y : Bool) → ¬ T x → T y → num x < num y
one_lt true y k g = absurd (k tt)
one_lt false true k g = omega arith
one_lt false false k g = absurd g

module _ (t s : ℕ → Bool) (more : (i : ℕ) → T (t i) → T (s i)) where
  pub count_le : (n : ℕ) → count_below n t ≤ count_below n s
  unfolding count_below
  count_le zero = omega arith
  count_le (suc n) = omega (arith, one_le (t n) (s n) (more n), count_le n)

  -- s passes k too
  pub count_lt : (n k : ℕ) → k < n → ¬ T (t k) → T (s k) → count_below n t < count_below n s
  unfolding count_below
  count_lt zero k b x y = absurd (omega arith)
  count_lt (suc n) k b x y = at (ℕ_discrete k n) (λ l. count_lt n k l x y)
    where
      at : Dec (k ≡ n) → (k < n → count_below n t < count_below n s)
          → count_below n t + num (t n) < count_below n s + num (s n)
      at (yes e) ih = omega (arith, one_lt (t n) (s n) (λ z. x (rw e z)) (rw e at y), count_le n)
      at (no ne) ih = omega (arith, one_le (t n) (s n) (more n), ih (omega arith))

pub count_all : (n : ℕ) → count_below n (λ i. true) ≡ n
unfolding count_below
count_all zero = refl
count_all (suc n) = omega (arith, count_all n)

module _ (size : ℕ) (before : ℕ → ℕ → Bool) (irreflexive : (a : ℕ) → ¬ T (before a a)) where
  -- how many stand before i
  unfoldable pub rank_of : ℕ → ℕ
  rank_of i = count_below size (λ a. before a i)

  pub rank_below_size : (i : ℕ) → i < size → rank_of i < size
  unfolding rank_of
  rank_below_size i l = rw (count_all size) at
      (count_lt (λ a. before a i) (λ a. true) (λ a x. tt) size i l (irreflexive i) tt)

  pub ranks_rise : ((a b c : ℕ) → T (before a b) → T (before b c) → T (before a c)) → (a b : ℕ) → a < size
      → T (before a b) → rank_of a < rank_of b
  unfolding rank_of
  ranks_rise transitive a b l x =
      count_lt (λ i. before i a) (λ i. before i b) (λ i y. transitive i a b y x) size a l (irreflexive a) x
