-- What the bits of words say, and those of the words made of them. Each law takes the equation of the word that the
-- code made. Assumes nothing.
use mathlib.Core.Path.{◌≡◌, refl}
use mathlib.Core.Logic.{◌⊎◌, inl, inr, ◌↔◌}
use mathlib.Core.Bool.{Bool, true, false, not}
use Prim.Native.Nat.{ℕ, ◌^◌, ◌<◌}
use native.Mathlib.Decide.{ℕ_discrete}
use lib.Dec.{T}
use lib.Bits.{bit_and, bit_or, bit_xor}
use Rattle.base.specs.Bits.{bit}
use Rattle.base.specs.Words.{ones, Says}
use Rattle.base.proofs.Tests.{and_tests, or_tests, not_test}
use Rattle.base.proofs.Bits.{bit_and_lem, bit_or_lem, bit_less, bit_none, bit_all, bit_not, one_same, one_other}

module _ {w f : ℕ} {A : Type 0} where
  pub says_map : {B : Type 0} → A ↔ B → Says w f A → Says w f B
  says_map e s = record { to = λ t. e.0 (s.to t); from = λ x. s.from (e.1 x) }

  pub says_eq : {z : ℕ} → z ≡ w → Says w f A → Says z f A
  says_eq e s = record { to = λ t. s.to (rw e at t); from = λ x. rw e (s.from x) }

  pub says_dec : Says w f A → Dec A
  says_dec s = at (bit w f) s.to s.from
    where
      at : (b : Bool) → (T b → A) → (A → T b) → Dec A
      at true to from = yes (to tt)
      at false to from = no from

-- a bit says of itself that it is set
pub says_self : (w f : ℕ) → Says w f (T (bit w f))
says_self w f = record { to = λ t. t; from = λ t. t }

module _ {x y z f : ℕ} {A B : Type 0} where
  -- x & y
  pub says_and : z ≡ bit_and x y → Says x f A → Says y f B → Says z f (A × B)
  says_and e a b = record {
    to = λ t. let u = (and_tests (bit x f) (bit y f)).1 (rw (e, bit_and_lem x y f) at t) in (a.to u.0, b.to u.1);
    from = λ h. rw (e, bit_and_lem x y f) ((and_tests (bit x f) (bit y f)).0 (a.from h.0, b.from h.1));
  }

  -- x | y
  pub says_or : z ≡ bit_or x y → Says x f A → Says y f B → Says z f (A ⊎ B)
  says_or e a b = record {
    to = λ t. to ((or_tests (bit x f) (bit y f)).1 (rw (e, bit_or_lem x y f) at t));
    from = λ h. rw (e, bit_or_lem x y f) ((or_tests (bit x f) (bit y f)).0 (from h));
  }
    where
      to : T (bit x f) ⊎ T (bit y f) → A ⊎ B
      to (inl t) = inl (a.to t)
      to (inr t) = inr (b.to t)

      from : A ⊎ B → T (bit x f) ⊎ T (bit y f)
      from (inl h) = inl (a.from h)
      from (inr h) = inr (b.from h)

  -- x and not y: `x ^ (x & y)`
  pub says_less : z ≡ bit_xor x (bit_and x y) → Says x f A → Says y f B → Says z f (A × (¬ B))
  says_less e a b = record {
    to = λ t. let u = (and_tests (bit x f) (not (bit y f))).1 (rw (e, bit_less x y f) at t) in
        (a.to u.0, λ h. (not_test (bit y f)).1 u.1 (b.from h));
    from = λ h. rw (e, bit_less x y f)
        ((and_tests (bit x f) (not (bit y f))).0 (a.from h.0, (not_test (bit y f)).0 (λ t. h.1 (b.to t))));
  }

module _ {z f : ℕ} {A : Type 0} where
  -- not x: `x ^ ones`
  pub says_not : {x : ℕ} → f < 64 → z ≡ bit_xor x ones → Says x f A → Says z f (¬ A)
  says_not {x} l e a = record {
    to = λ t h. (not_test (bit x f)).1 (rw (e, bit_not x f l) at t) (a.from h);
    from = λ k. rw (e, bit_not x f l) ((not_test (bit x f)).0 (λ t. k (a.to t)));
  }

  -- no bit, every bit
  pub says_none : z ≡ 0 → ¬ A → Says z f A
  says_none e k = record { to = λ t. absurd (rw (e, bit_none f) at t); from = λ x. absurd (k x) }

  pub says_all : f < 64 → z ≡ ones → A → Says z f A
  says_all l e a = record { to = λ t. a; from = λ x. rw (e, bit_all f l) tt }

  -- of the flags of a word that says A, those with B
  pub says_among : {s : ℕ} {B : Type 0} → Says s f A → Says z f (T (bit s f) × B) → Says z f (A × B)
  says_among a b = says_map (λ x. (a.to x.0, x.1), λ x. (a.from x.0, x.1)) b

  -- one bit more: `x | 2 ^ k`
  pub says_set : {x : ℕ} (k : ℕ) → z ≡ bit_or x (2 ^ k) → Says x f A → Says z f (A ⊎ (f ≡ k))
  says_set {x} k e a = says_or e a (at (ℕ_discrete f k))
    where
      at : Dec (f ≡ k) → Says (2 ^ k) f (f ≡ k)
      at (yes q) = record { to = λ t. q; from = λ x. rw (q, one_same k) tt }
      at (no ne) = record { to = λ t. absurd (rw (one_other k f ne) at t); from = λ x. absurd (ne x) }

-- neither x nor y: `(x | y) ^ ones`
pub says_neither : {x y z f : ℕ} {A B : Type 0} → f < 64 → z ≡ bit_xor (bit_or x y) ones → Says x f A → Says y f B
    → Says z f (¬ (A ⊎ B))
says_neither {x} {y} l e a b = says_not {x = bit_or x y} l e (says_or {x = x} {y = y} refl a b)

-- a word that is zero has no flag
pub no_flag : (w f : ℕ) → w ≡ 0 → ¬ T (bit w f)
no_flag w f e t = rw (e, bit_none f) at t

-- the flags of `x & y` are among those of x
pub among_left : (x y f : ℕ) → T (bit (bit_and x y) f) → T (bit x f)
among_left x y f t = ((says_and {x = x} {y = y} refl (says_self x f) (says_self y f)).to t).0
