-- Searches among the numbers below n, as equations. Assumes nothing.
use mathlib.Core.Bool.{true≢false}
use Prim.Native.Nat.{◌-◌}
use native.Mathlib.Numerals.{add-one}
use Rattle.runs.specs.Searches.{any_below, either}
use Rattle.runs.proofs.Base.{◌≡◌, refl, sym, ap, ◌∙◌, Bool, true, false, ℕ, suc, ◌+◌, ◌<◌, ◌≤◌, arith}
use Rattle.runs.proofs.Reflect.{Reflects, r_map, r_any, true_T, T_true, same_test}

reflected : (n : ℕ) (p : ℕ → Bool) → Reflects (any_below n p) ((i : ℕ) × (i < n) × (p i ≡ true))
reflected n p = r_any (λ i. p i ≡ true) n p (λ i. record { to = T_true (p i); from = true_T (p i) })

-- a search that found something has found it somewhere
pub found_at : (n : ℕ) (p : ℕ → Bool) → any_below n p ≡ true → (i : ℕ) × (i < n) × (p i ≡ true)
found_at n p h = (reflected n p).to (true_T (any_below n p) h)

pub some_yes : (n : ℕ) (p : ℕ → Bool) (k : ℕ) → k < n → p k ≡ true → any_below n p ≡ true
some_yes n p k l h = T_true (any_below n p) ((reflected n p).from (k, l, h))

fails : (a : Bool) → (a ≡ true → ⊥) → a ≡ false
fails true k = absurd (k refl)
fails false k = refl

-- a search that found nothing has passed each
pub none_at : (n : ℕ) (p : ℕ → Bool) → any_below n p ≡ false → (i : ℕ) → i < n → p i ≡ false
none_at n p h i l = fails (p i) (λ y. true≢false (sym (some_yes n p i l y) ∙ h))

-- and conversely
pub none_all : (n : ℕ) (p : ℕ → Bool) → ((i : ℕ) → i < n → p i ≡ false) → any_below n p ≡ false
none_all n p h = fails (any_below n p) (λ y. let w = found_at n p y in true≢false (sym w.2 ∙ h w.0 w.1))

pub none_none : (p : ℕ → Bool) → any_below 0 p ≡ false
unfolding any_below
none_none p = refl

not_last : (n : ℕ) (p : ℕ → Bool) → p n ≡ false → any_below (suc n) p ≡ any_below n p
unfolding any_below either
not_last n p e = rw e

-- none below i, and not i: none below i + 1
pub none_more : (i : ℕ) (p : ℕ → Bool) → any_below i p ≡ false → p i ≡ false → any_below (i + 1) p ≡ false
none_more i p a b = rw (add-one i) (not_last i p b ∙ a)

-- ---- the loop `while i < n { if p(i) { return true; } i += 1; } false`, over any test p
-- what it knows at i: it is not past n, and nothing below passes
pub record Unfound (n : ℕ) (p : ℕ → Bool) (i : ℕ) : Type 0 where
  pub within : i ≤ n
  pub none : any_below i p ≡ false

pub search_starts : {n : ℕ} {p : ℕ → Bool} → Unfound n p 0
search_starts {n} {p} = record { within = omega arith; none = none_none p }

-- a turn, where the code has t for the test at i: it returns, or goes on
module _ {n i : ℕ} {p : ℕ → Bool} {t : Bool} (u : Unfound n p i) (l : i < n) (e : t ≡ p i) where
  pub search_finds : t ≡ true → true ≡ any_below n p
  search_finds y = sym (some_yes n p i l (sym e ∙ y))

  pub search_goes_on : t ≡ false → Unfound n p (i + 1)
  search_goes_on y = record { within = omega arith; none = none_more i p u.none (sym e ∙ y) }

pub search_ends : {n i : ℕ} {p : ℕ → Bool} → Unfound n p i → n ≤ i → false ≡ any_below n p
search_ends {n} {i} {p} u l = let e : i ≡ n = omega arith in sym (rw e at u.none)

-- ---- the same tests find the same
pub some_same : (n : ℕ) (p q : ℕ → Bool) → ((i : ℕ) → i < n → p i ≡ q i) → any_below n p ≡ any_below n q
some_same n p q h = same_test (any_below n p) (any_below n q) (reflected n p) (r_map (
  λ w. (w.0, w.1, h w.0 w.1 ∙ w.2),
  λ w. (w.0, w.1, sym (h w.0 w.1) ∙ w.2),
) (reflected n q))

-- in whichever direction
pub some_back : (n : ℕ) (p : ℕ → Bool) → any_below n (λ m. p (n - 1 - m)) ≡ any_below n p
some_back n p =
    let back : (i : ℕ) → i < n → (n - 1 - i < n) × (n - 1 - (n - 1 - i) ≡ i) = λ i l. (omega arith, omega arith) in
    same_test (any_below n (λ m. p (n - 1 - m))) (any_below n p) (reflected n (λ m. p (n - 1 - m))) (r_map (
      λ w. (n - 1 - w.0, (back w.0 w.1).0, ap p (back w.0 w.1).1 ∙ w.2),
      λ w. (n - 1 - w.0, (back w.0 w.1).0, w.2),
    ) (reflected n p))
