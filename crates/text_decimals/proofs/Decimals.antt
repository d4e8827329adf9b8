-- The laws of `decimal`. Assumes nothing.
use mathlib.Core.Path.{◌≡◌, refl, sym, ap, ◌∙◌}
use mathlib.Core.Logic.{by_cases}
use mathlib.Core.List.{List, [], ◌∷◌, ◌++◌, append_assoc, append-nil}
use Prim.Native.Nat.{ℕ, zero, suc, ◌+◌, ◌-◌, ◌*◌, ◌/◌, ◌%◌, ◌^◌, ◌<◌, ◌≤◌}
use native.Mathlib.Decide.{dec_lt}
use native.Mathlib.Nat.{pow-suc}
use native.Mathlib.Omega.{arith}
use lib.ListN.{length, get_or, length-append, get_or-append}
use lib.Seq.{get_or-append_seam}
use Rattle.text_decimals.specs.Decimals.{Digits, value_from, Plain}
use Rattle.text_decimals.specs.Model.{unless_zero, decimal_by, decimal}

unless_same : (n : ℕ) (f g : ℕ → List ℕ) → (0 < n → f n ≡ g n) → unless_zero n f ≡ unless_zero n g
unless_same zero f g h = refl
unless_same (suc n) f g h = h (omega arith)

unless_is : (n : ℕ) (f : ℕ → List ℕ) → 0 < n → unless_zero n f ≡ f n
unless_is zero f l = absurd (omega arith)
unless_is (suc n) f l = refl

unless_none : (n : ℕ) (f : ℕ → List ℕ) → n ≡ 0 → unless_zero n f ≡ []
unless_none n f e = rw e

enough : (k k' n : ℕ) → n < k → n < k' → decimal_by k n ≡ decimal_by k' n
unfolding decimal_by
enough zero k' n l l' = absurd (omega arith)
enough (suc k) zero n l l' = absurd (omega arith)
enough (suc k) (suc k') n l l' =
    rw (unless_same (n / 10) (decimal_by k) (decimal_by k') (λ z. enough k k' (n / 10) (omega arith) (omega arith)))

-- one digit
pub decimal_digit : (n : ℕ) → n < 10 → decimal n ≡ (48 + n % 10) ∷ []
unfolding decimal decimal_by
decimal_digit n l =
    let z : n / 10 ≡ 0 = omega arith in
    rw (unless_none (n / 10) (decimal_by n) z)

-- more: those of n / 10, and the last
pub decimal_more : (n : ℕ) → 10 ≤ n → decimal n ≡ decimal (n / 10) ++ ((48 + n % 10) ∷ [])
unfolding decimal decimal_by
decimal_more n l = rw (
  unless_is (n / 10) (decimal_by n) (omega arith),
  enough n (suc (n / 10)) (n / 10) (omega arith) (omega arith),
)

pub length_digit : (n : ℕ) → n < 10 → length (decimal n) ≡ 1
length_digit n l = ap length (decimal_digit n l)

pub length_more : (n : ℕ) → 10 ≤ n → length (decimal n) ≡ length (decimal (n / 10)) + 1
length_more n l = ap length (decimal_more n l) ∙ length-append (decimal (n / 10)) ((48 + n % 10) ∷ [])

-- a number below 10 ^ k has at most k digits
pub length_limit : (k n : ℕ) → n < 10 ^ suc k → length (decimal n) ≤ suc k
length_limit zero n l = omega (arith, length_digit n l)
length_limit (suc k) n l =
    by_cases (dec_lt n 10) (λ (q : n < 10). omega (arith, length_digit n q))
    (λ q. let e : 10 ^ suc (suc k) ≡ 10 ^ suc k * 10 = pow-suc 10 (suc k) in
    omega (arith, length_more n (omega arith), length_limit k (n / 10) (omega arith)))

-- ---- they are plain
value_more : (s : List ℕ) (v x : ℕ) → value_from v (s ++ (x ∷ [])) ≡ 10 * value_from v s + (x - 48)
unfolding value_from
value_more [] v x = refl
value_more (y ∷ s) v x = value_more s (10 * v + (y - 48)) x

plain_one : (n : ℕ) → n < 10 → Plain n ((48 + n % 10) ∷ [])
unfolding value_from
plain_one n q = record {
  some = omega arith;
  digits = λ i l. let e : i ≡ 0 = omega arith in rw e (omega arith, omega arith);
  value = omega arith;
  no_leading_zero = λ e. refl;
}

digits_more : (s : List ℕ) (n : ℕ) → Digits s → Digits (s ++ ((48 + n % 10) ∷ []))
digits_more s n h i l =
    by_cases (dec_lt i (length s))
    (λ (q : i < length s). rw (get_or-append s ((48 + n % 10) ∷ []) 0 i q) (h i q))
    (λ q.
    let e : i ≡ length s = omega (arith, length-append s ((48 + n % 10) ∷ [])) in
    rw (e, get_or-append_seam s (48 + n % 10) [] 0) (omega arith, omega arith))

-- the first digit is 0 only of 0
first_zero : {n : ℕ} {s : List ℕ} → Plain n s → get_or s 0 0 ≡ 48 → n ≡ 0
unfolding value_from
first_zero {s = []} p e = sym p.value
first_zero {s = x ∷ []} p e = omega (arith, p.value)
first_zero {s = x ∷ y ∷ s} p e = absurd (omega (arith, p.no_leading_zero e))

plain_more : {n : ℕ} {s : List ℕ} → 10 ≤ n → Plain (n / 10) s → Plain n (s ++ ((48 + n % 10) ∷ []))
plain_more {n} {s} l p = record {
  some = omega (arith, length-append s ((48 + n % 10) ∷ []));
  digits = digits_more s n p.digits;
  value = omega (arith, value_more s 0 (48 + n % 10), p.value);
  no_leading_zero = λ e. absurd (omega
      (arith, first_zero p (sym (get_or-append s ((48 + n % 10) ∷ []) 0 0 p.some) ∙ e)));
}

plain_in : (k n : ℕ) → n < k → Plain n (decimal n)
plain_in zero n l = absurd (omega arith)
plain_in (suc k) n l =
    by_cases (dec_lt n 10)
    (λ (q : n < 10). rw (decimal_digit n q) (plain_one n q))
    (λ q. rw (decimal_more n (omega arith)) (plain_more (omega arith) (plain_in k (n / 10) (omega arith))))

pub plain : (n : ℕ) → Plain n (decimal n)
plain n = plain_in (suc n) n (omega arith)

-- ---- and nothing else is
decimal_join : (v x : ℕ) → 0 < v → 48 ≤ x → x ≤ 57 → decimal (10 * v + (x - 48)) ≡ decimal v ++ (x ∷ [])
decimal_join v x z l m =
    let q : (10 * v + (x - 48)) / 10 ≡ v = omega arith in
    let r : 48 + (10 * v + (x - 48)) % 10 ≡ x = omega arith in
    decimal_more (10 * v + (x - 48)) (omega arith)
    ∙ ap (λ (u : ℕ). decimal u ++ ((48 + (10 * v + (x - 48)) % 10) ∷ [])) q
    ∙ ap (λ (y : ℕ). decimal v ++ (y ∷ [])) r

-- digits after those of v
decimal_then : (s : List ℕ) (v : ℕ) → 0 < v → Digits s → decimal (value_from v s) ≡ decimal v ++ s
unfolding value_from
decimal_then [] v z d = sym (append-nil (decimal v))
decimal_then (x ∷ s) v z d =
    let w = d 0 (omega arith) in
    decimal_then s (10 * v + (x - 48)) (omega arith) (λ i l. d (suc i) (omega arith))
    ∙ ap (λ (xs : List ℕ). xs ++ s) (decimal_join v x z w.0 w.1)
    ∙ append_assoc (decimal v) (x ∷ []) s

decimal_of : (n x : ℕ) → 48 ≤ x → x ≤ 57 → n ≡ x - 48 → decimal n ≡ x ∷ []
decimal_of n x l m e = let r : 48 + n % 10 ≡ x = omega arith in decimal_digit n (omega arith) ∙ ap (λ (y : ℕ). y ∷ []) r

pub plain_only : {n : ℕ} {s : List ℕ} → Plain n s → s ≡ decimal n
unfolding value_from
plain_only {s = []} p = absurd (omega (arith, p.some))
plain_only {n} {s = x ∷ []} p = let w = p.digits 0 (omega arith) in
    sym (decimal_of n x w.0 w.1 (omega (arith, p.value)))
plain_only {n} {s = x ∷ y ∷ s} p =
    let w = p.digits 0 (omega arith) in
    let z : x ≡ 48 → ⊥ = λ e. omega (arith, p.no_leading_zero e) in
    let t = decimal_then (y ∷ s) (10 * 0 + (x - 48)) (omega arith) (λ i l. p.digits (suc i) (omega arith)) in
    sym (ap decimal (sym p.value) ∙ t
    ∙ ap (λ (xs : List ℕ). xs ++ y ∷ s) (decimal_of (10 * 0 + (x - 48)) x w.0 w.1 (omega arith)))
