-- Links that are written one after another. Assumes nothing.
use mathlib.Core.Path.{◌≡◌, refl, sym, ◌∙◌}
use mathlib.Core.Logic.{◌⊎◌, inl, inr, ⊎_elim, by_cases}
use mathlib.Core.List.{List}
use Prim.Native.Nat.{ℕ, ◌+◌, ◌*◌, ◌<◌}
use native.Mathlib.Decide.{ℕ_discrete}
use native.Mathlib.Omega.{arith}
use lib.ListN.{length, set, length-set}
use lib.Seq.{get_or-set_same, get_or-set_other}
use Rattle.tables.specs.Represents.{code}
use Rattle.table_orders.specs.Links.{Linked, Leading}

-- one link
pub linked : (o : List ℕ) (a c : ℕ) → a < c → c < 128 → length o ≡ 16384
    → Linked o (set (set o (a * 128 + c) 1) (c * 128 + a) 2) c (λ z. z ≡ a)
linked o a c l m e =
    let s = set o (a * 128 + c) 1 in
    let es : length s ≡ 16384 = length-set o (a * 128 + c) 1 ∙ e in
    record {
      long = length-set s (c * 128 + a) 2 ∙ es;
      ahead = λ d i q. rw q (get_or-set_other s (c * 128 + a) (a * 128 + c) 2 0
          (λ (z : a * 128 + c ≡ c * 128 + a). omega arith) ∙ get_or-set_same o (a * 128 + c) 1 0 (omega arith));
      back = λ d i q. rw q (get_or-set_same s (c * 128 + a) 2 0 (omega arith));
      kept = λ x y i j n k.
          get_or-set_other s (c * 128 + a) (x * 128 + y) 2 0
          (λ (z : x * 128 + y ≡ c * 128 + a). k (omega arith) (omega arith))
          ∙ get_or-set_other o (a * 128 + c) (x * 128 + y) 1 0
          (λ (z : x * 128 + y ≡ a * 128 + c). n (omega arith) (omega arith));
    }

-- the same links, said in another way
pub linked_same : {o o' : List ℕ} {b : ℕ} {P Q : ℕ → Type 0} → ((z : ℕ) → P z → Q z) → ((z : ℕ) → z < 128 → Q z → P z)
    → Linked o o' b P → Linked o o' b Q
linked_same f g h =
    record {
      long = h.long;
      ahead = λ c l q. h.ahead c l (g c l q);
      back = λ c l q. h.back c l (g c l q);
      kept = λ x y l m n k. h.kept x y l m (λ e p. n e (f x p)) (λ e p. k e (f y p));
    }

-- one link more
pub linked_more : {o o' o'' : List ℕ} {b c : ℕ} {P Q : ℕ → Type 0} → b < 128 → ((z : ℕ) → P z → Q z) → Q c
    → ((z : ℕ) → Q z → P z ⊎ (z ≡ c))
    → Linked o o' b P → Linked o' o'' b (λ z. z ≡ c) → Linked o o'' b Q
linked_more {b = b} {c = c} {P = P} {Q = Q} lb f qc g h k =
    let old : (d : ℕ) → (d ≡ c → ⊥) → Q d → P d = λ d n q. ⊎_elim (λ p. p) (λ e. absurd (n e)) (g d q) in
    record {
      long = k.long;
      ahead = λ d l q.
          by_cases (ℕ_discrete d c) (λ (e : d ≡ c). k.ahead d l e)
          (λ n. k.kept d b l lb (λ x e. n e) (λ (x : d ≡ b) (y : b ≡ c). n (x ∙ y)) ∙ h.ahead d l (old d n q));
      back = λ d l q.
          by_cases (ℕ_discrete d c) (λ (e : d ≡ c). k.back d l e)
          (λ n. k.kept b d lb l (λ (x : d ≡ b) (y : b ≡ c). n (x ∙ y)) (λ x e. n e) ∙ h.back d l (old d n q));
      kept = λ x y l m n i.
          k.kept x y l m (λ e (w : x ≡ c). n e (rw w qc)) (λ e (w : y ≡ c). i e (rw w qc))
          ∙ h.kept x y l m (λ e p. n e (f x p)) (λ e p. i e (f y p));
    }

-- what the table has before a, below c
abbrev pub Within : List ℕ → ℕ → ℕ → ℕ → Type 0
Within o a c z = (z < c) × (code o z a ≡ 1)

pub within_none : {o : List ℕ} (a : ℕ) {b : ℕ} → length o ≡ 16384 → Linked o o b (Within o a 0)
within_none a e =
    record {
      long = e;
      ahead = λ c l w. absurd (omega (arith, w.0));
      back = λ c l w. absurd (omega (arith, w.0));
      kept = λ x y l m n k. refl;
    }

module _ {o o' : List ℕ} {a b c : ℕ} (l : c < a) (m : a < b) (n : b < 128) (h : Linked o o' b (Within o a c)) where
  -- the column of a is not written above a
  column_kept : code o' c a ≡ code o c a
  column_kept = h.kept c a (omega arith) (omega arith) (λ (e : a ≡ b) q. omega arith) (λ (e : c ≡ b) q. omega arith)

  wider : (z : ℕ) → Within o a c z → Within o a (c + 1) z
  wider z w = (omega (arith, w.0), w.1)

  pub within_more : {o'' o''' : List ℕ} → o''' ≡ o'' → code o' c a ≡ 1 → Linked o' o'' b (λ z. z ≡ c)
      → Linked o o''' b (Within o a (c + 1))
  within_more q e k =
      rw q
      (linked_more {P = Within o a c} {Q = Within o a (c + 1)} n wider (omega arith, sym column_kept ∙ e)
      (λ z w. by_cases (ℕ_discrete z c) (λ (x : z ≡ c). inr x) (λ x. inl (omega (arith, w.0), w.1)))
      h k)

  pub within_skip : {o''' : List ℕ} → o''' ≡ o' → (code o' c a ≡ 1 → ⊥) → Linked o o''' b (Within o a (c + 1))
  within_skip q x =
      rw q
      (linked_same {P = Within o a c} {Q = Within o a (c + 1)} wider
      (λ z i w.
      by_cases (ℕ_discrete z c) (λ (e : z ≡ c). absurd (x (column_kept ∙ (rw e at w.1))))
      (λ e. (omega (arith, w.0), w.1)))
      h)

-- a comes last
pub within_all : {o o' o'' : List ℕ} {a b c : ℕ} → a < b → b < 128 → c ≡ a → Linked o o' b (Within o a c)
    → Linked o' o'' b (λ z. z ≡ a) → Linked o o'' b (Leading o a)
within_all {o} {a = a} {b = b} {c = c} l m e h k =
    linked_same {P = λ z. (z ≡ a) ⊎ Within o a c z} {Q = Leading o a}
    (λ z q. ⊎_elim (λ x. inl x) (λ w. inr (omega (arith, w.0), w.1)) q)
    (λ z i q. ⊎_elim (λ x. inl x) (λ w. inr (omega (arith, w.0), w.1)) q)
    (linked_more {P = Within o a c} {Q = λ z. (z ≡ a) ⊎ Within o a c z} m (λ z w. inr w) (inl refl)
    (λ z q. ⊎_elim (λ x. inr x) (λ w. inl w) q) h k)
