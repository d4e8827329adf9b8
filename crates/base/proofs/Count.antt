-- The laws of `count_below`. Assumes nothing.
use mathlib.Core.Path.{◌≡◌, refl, sym, ap}
use mathlib.Core.Logic.{by_cases}
use mathlib.Core.Bool.{Bool, true, false, not, ◌&&◌, and-false}
use Prim.Native.Nat.{ℕ, zero, suc, ◌+◌, ◌-◌, ◌<◌, ◌≤◌}
use native.Mathlib.Decide.{ℕ_discrete, dec_lt}
use native.Mathlib.Numerals.{add-one}
use native.Mathlib.Omega.{arith}
use lib.Dec.{eqb, ltb, leb}
use borrow.Author.Tests.{eq-eqb, ne_eqb, lt-ltb, le-ltb, le-leb, lt-leb}
use Rattle.base.specs.Count.{num, count_below}

num_small : (x : Bool) → num x ≤ 1
num_small true = omega arith
num_small false = omega arith

num_some : (x : Bool) → (num x ≡ 0 → ⊥) → x ≡ true
num_some true h = refl
num_some false h = absurd (h refl)

-- one number more
pub count_more : (n : ℕ) (q : ℕ → Bool) → count_below (n + 1) q ≡ count_below n q + num (q n)
unfolding count_below
count_more n q = rw (add-one n)

pub count_le : (n : ℕ) (q : ℕ → Bool) → count_below n q ≤ n
unfolding count_below
count_le zero q = omega arith
count_le (suc n) q = omega (arith, count_le n q, num_small (q n))

pub count_same : (n : ℕ) (p q : ℕ → Bool) → ((i : ℕ) → i < n → p i ≡ q i) → count_below n p ≡ count_below n q
unfolding count_below
count_same zero p q h = refl
count_same (suc n) p q h = rw (h n (omega arith), count_same n p q (λ i l. h i (omega arith)))

-- none from m on
pub count_rest : (n m : ℕ) (q : ℕ → Bool) → m ≤ n → ((i : ℕ) → m ≤ i → i < n → q i ≡ false)
    → count_below n q ≡ count_below m q
unfolding count_below
count_rest zero m q l h = let e : m ≡ 0 = omega arith in rw e
count_rest (suc n) m q l h =
    by_cases (ℕ_discrete m (suc n)) (λ (e : m ≡ suc n). rw e)
    (λ e. rw (h n (omega arith) (omega arith))
    (omega (arith, count_rest n m q (omega arith) (λ i a z. h i a (omega arith)))))

pub count_none : (n : ℕ) (q : ℕ → Bool) → ((i : ℕ) → i < n → q i ≡ false) → count_below n q ≡ 0
unfolding count_below
count_none n q h = count_rest n 0 q (omega arith) (λ i a l. h i l)

pub some_counted : (n : ℕ) (q : ℕ → Bool) (i : ℕ) → i < n → q i ≡ true → 0 < count_below n q
unfolding count_below
some_counted zero q i l e = absurd (omega arith)
some_counted (suc n) q i l e =
    by_cases (ℕ_discrete i n) (λ (z : i ≡ n). rw (← z, e) (omega arith))
    (λ z. omega (arith, some_counted n q i (omega arith) e))

pub counted_some : (n : ℕ) (q : ℕ → Bool) → (count_below n q ≡ 0 → ⊥) → (i : ℕ) × (i < n) × (q i ≡ true)
unfolding count_below
counted_some zero q h = absurd (h refl)
counted_some (suc n) q h =
    by_cases (ℕ_discrete (num (q n)) 0)
    (λ (e : num (q n) ≡ 0). let w = counted_some n q (λ z. h (omega arith)) in (w.0, omega arith, w.2))
    (λ e. (n, omega arith, num_some (q n) e))

shift : (n : ℕ) (q : ℕ → Bool) → count_below (suc n) q ≡ num (q 0) + count_below n (λ i. q (suc i))
unfolding count_below
shift zero q = omega arith
shift (suc n) q = omega (arith, shift n q)

-- in whichever direction
pub count_back : (n : ℕ) (q : ℕ → Bool) → count_below n (λ m. q (n - 1 - m)) ≡ count_below n q
unfolding count_below
count_back zero q = refl
count_back (suc n) q =
    let z : suc n - 1 - n ≡ 0 = omega arith in
    let y : num (q (suc n - 1 - n)) ≡ num (q 0) = ap (λ (k : ℕ). num (q k)) z in
    let e = count_same n (λ m. q (suc n - 1 - m)) (λ m. q (suc (n - 1 - m)))
    (λ i l. let o : suc n - 1 - i ≡ suc (n - 1 - i) = omega arith in ap q o) in
    omega (arith, shift n q, e, count_back n (λ i. q (suc i)), y)

-- without one of them
pub count_others : (n : ℕ) (q : ℕ → Bool) (i : ℕ) → i < n
    → count_below n q ≡ num (q i) + count_below n (λ j. not (eqb j i) && q j)
unfolding count_below
count_others zero q i l = absurd (omega arith)
count_others (suc n) q i l =
    by_cases (ℕ_discrete i n)
    (λ (z : i ≡ n).
    let e = count_same n q (λ j. not (eqb j i) && q j) (λ j m. rw (ne_eqb j i (λ x. omega arith))) in
    let y : num (q i) ≡ num (q n) = ap (λ (k : ℕ). num (q k)) z in
    rw (eq-eqb n i (sym z)) (omega (arith, e, y)))
    (λ z. rw (ne_eqb n i (λ x. z (sym x))) (omega (arith, count_others n q i (omega arith))))

-- a test that one number more passes
pub count_one_more : (n : ℕ) (p q : ℕ → Bool) (i : ℕ) → i < n → p i ≡ false → q i ≡ true
    → ((j : ℕ) → j < n → (j ≡ i → ⊥) → q j ≡ p j) → count_below n q ≡ suc (count_below n p)
count_one_more n p q i l off on h =
    omega (
      arith,
      count_others n p i l,
      count_others n q i l,
      ap num off,
      ap num on,
      count_same n (λ j. not (eqb j i) && q j) (λ j. not (eqb j i) && p j)
          (λ j m. by_cases (ℕ_discrete j i) (λ (e : j ≡ i). rw (eq-eqb j i e)) (λ e. rw (h j m e))),
    )

-- two tests in one, each number passing one of them at most
pub count_sum : (n : ℕ) (p q r : ℕ → Bool) → ((i : ℕ) → i < n → num (p i) + num (q i) ≡ num (r i))
    → count_below n p + count_below n q ≡ count_below n r
unfolding count_below
count_sum zero p q r h = refl
count_sum (suc n) p q r h = omega (arith, count_sum n p q r (λ i l. h i (omega arith)), h n (omega arith))

-- ---- numbers given out: f i is the number of i, for each i that passes q
-- of the numbers 1 to m + 1, one is m + 1
one_of : (v m : ℕ) → num (ltb 0 v && leb v m) + num (eqb v (suc m)) ≡ num (ltb 0 v && leb v (suc m))
one_of v m =
    by_cases (ℕ_discrete v (suc m))
    (λ (e : v ≡ suc m).
    rw (
      eq-eqb v (suc m) e,
      lt-ltb 0 v (omega arith),
      lt-leb v m (omega arith),
      le-leb v (suc m) (omega arith),
    ))
    (λ n. rw (ne_eqb v (suc m) n)
    (by_cases (dec_lt m v)
    (λ (l : m < v). rw (lt-leb v m l, lt-leb v (suc m) (omega arith)) (omega arith))
    (λ l. rw (le-leb v m (omega arith), le-leb v (suc m) (omega arith)) (omega arith))))

-- of those that pass a test, each passes another or does not
num_parts : (c x : Bool) → num (c && x) + num (c && not x) ≡ num c
num_parts true true = refl
num_parts true false = refl
num_parts false x = refl

module _ (n : ℕ) (q : ℕ → Bool) (f : ℕ → ℕ) where
  -- i has one of the numbers 1 to m; it has k + 1
  among : ℕ → ℕ → Bool
  among m i = ltb 0 (f i) && leb (f i) m

  has : ℕ → ℕ → Bool
  has k i = q i && eqb (f i) (suc k)

  one_more : (m i : ℕ) → num (q i && among m i) + num (has m i) ≡ num (q i && among (suc m) i)
  unfolding among has
  one_more m i = at (q i)
    where
      at : (c : Bool) → num (c && (ltb 0 (f i) && leb (f i) m)) + num (c && eqb (f i) (suc m))
          ≡ num (c && (ltb 0 (f i) && leb (f i) (suc m)))
      at true = one_of (f i) m
      at false = refl

  -- if each of 1 to m is given out once, m have one of them
  given_out : (m : ℕ) → ((k : ℕ) → k < m → count_below n (has k) ≡ 1) → count_below n (λ i. q i && among m i) ≡ m
  unfolding among
  given_out zero h = count_none n (λ i. q i && among 0 i) (λ i l. none (q i) (f i))
    where
      none : (c : Bool) (v : ℕ) → (c && (ltb 0 v && leb v 0)) ≡ false
      none false v = refl
      none true zero = refl
      none true (suc v) = rw (lt-leb (suc v) 0 (omega arith)) (and-false (ltb 0 (suc v)))
  given_out (suc m) h = omega (
    arith,
    count_sum n (λ i. q i && among m i) (has m) (λ i. q i && among (suc m) i) (λ i l. one_more m i),
    given_out m (λ k l. h k (omega arith)),
    h m (omega arith),
  )

  -- and if m are all that pass, each of them has one
  pub each_once : ((k : ℕ) → k < count_below n q → count_below n (λ i. q i && eqb (f i) (suc k)) ≡ 1) → (i : ℕ) → i < n
      → q i ≡ true → (0 < f i) × (f i ≤ count_below n q)
  unfolding among has
  each_once h i l y =
      let m = count_below n q in
      let none : count_below n (λ j. q j && not (among m j)) ≡ 0 =
      omega (
        arith,
        given_out m h,
        count_sum n (λ j. q j && among m j) (λ j. q j && not (among m j)) q (λ j z. num_parts (q j) (among m j)),
      ) in
      let out : (among m i ≡ false → ⊥) = λ z.
      omega (arith, none, some_counted n (λ j. q j && not (among m j)) i l (rw (y, z))) in (
        by_cases (dec_lt 0 (f i)) (λ (z : 0 < f i). z) (λ z. absurd (out (rw (le-ltb 0 (f i) (omega arith))))),
        by_cases (dec_lt m (f i)) (λ (z : m < f i). absurd (out (rw (lt-leb (f i) m z) (and-false (ltb 0 (f i))))))
            (λ z. omega arith),
      )
