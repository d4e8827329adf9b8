-- The cases of an answer: they exclude each other, and there is one answer only; a refusal is 23 or 24, and a sequence
-- has 1 to 7 of the root's children.
use native.Mathlib.Decide.{dec_lt}
use Rattle.base.proofs.Dictionary.{Compared, compare}
use Rattle.runs.proofs.Base.{◌≡◌, refl, ap, ◌⊎◌, inl, inr, ◌↔◌, Bool, List, [], ◌∷◌, Among, among_none, ℕ, ◌<◌, ◌≤◌}
use Rattle.runs.proofs.Base.{arith, length}
use Rattle.runs.specs.Plan.{Plan, Child}
use Rattle.runs.specs.WellFormed.{Accepted}
use Rattle.sequences.specs.Sequences.{Refused23, too_many, SerialClear, FirstClear, Sought, refused_23}
use Rattle.sequences.specs.Sequences.{refused_24, found}
use Rattle.runs.proofs.Reflect.{clash}
use Rattle.sequences.proofs.Rising.{root_all_of}

number_of : {n m : ℕ} → ◌≡◌ {A = ℕ ⊎ List ℕ} (inl m) (inl n) → n ≡ m
number_of e = cc

list_of : {xs ys : List ℕ} → ◌≡◌ {A = ℕ ⊎ List ℕ} (inr xs) (inr ys) → xs ≡ ys
list_of e = cc

module _ {p : Plan} {F : ℕ → Bool} where
  pub sought_23 : {a : ℕ ⊎ List ℕ} → Sought p F a → (a ≡ inl 23) ↔ Refused23 p
  sought_23 (refused_23 x) = (λ e. x, λ y. refl)
  sought_23 (refused_24 n x) = (λ e. clash cc, λ y. absurd (n y))
  sought_23 (found n x) = (λ e. clash cc, λ y. absurd (n y))

  pub sought_24 : {a : ℕ ⊎ List ℕ} → Sought p F a
      → (a ≡ inl 24) ↔ ((¬ Refused23 p) × ((xs : List ℕ) → ¬ SerialClear p F xs))
  sought_24 (refused_23 x) = (λ e. clash cc, λ y. absurd (y.0 x))
  sought_24 (refused_24 n x) = (λ e. (n, x), λ y. refl)
  sought_24 (found {xs = xs} n x) = (λ e. clash cc, λ y. absurd (y.1 xs x.serial))

  -- two lists that are first are the same
  first_only : {xs ys : List ℕ} → FirstClear p F xs → FirstClear p F ys → xs ≡ ys
  first_only {xs} {ys} x y = at (compare xs ys)
    where
      at : Compared xs ys → xs ≡ ys
      at (inl q) = absurd (y.none_before xs q x.serial)
      at (inr (inl e)) = e
      at (inr (inr q)) = absurd (x.none_before ys q y.serial)

  pub sought_found : {a : ℕ ⊎ List ℕ} → Sought p F a → (xs : List ℕ)
      → (a ≡ inr xs) ↔ ((¬ Refused23 p) × FirstClear p F xs)
  sought_found (refused_23 x) xs = (λ e. clash cc, λ y. absurd (y.0 x))
  sought_found (refused_24 n x) xs = (λ e. clash cc, λ y. absurd (x xs y.1.serial))
  sought_found (found n x) xs = (λ e. (n, rw (list_of e) at x), λ y. ap inr (first_only x y.1))

  -- there is one answer only
  pub sought_only : {a c : ℕ ⊎ List ℕ} → Sought p F a → Sought p F c → a ≡ c
  sought_only x (refused_23 y) = (sought_23 x).1 y
  sought_only x (refused_24 n y) = (sought_24 x).1 (n, y)
  sought_only x (found {xs = ys} n y) = (sought_found x ys).1 (n, y)

  -- a refusal is 23 or 24
  pub sought_number : {a : ℕ ⊎ List ℕ} → Sought p F a → (n : ℕ) → a ≡ inl n → (n ≡ 23) ⊎ (n ≡ 24)
  sought_number (refused_23 x) n e = inl (number_of e)
  sought_number (refused_24 k x) n e = inr (number_of e)
  sought_number (found k x) n e = clash cc

  -- a sequence has 1 to 7 nodes, since a group has a child and 23 does not apply; they are children of the root
  pub sought_sized : Accepted p → {a : ℕ ⊎ List ℕ} → Sought p F a → (xs : List ℕ) → a ≡ inr xs
      → (0 < length xs) × (length xs ≤ 7)
  sought_sized ok (refused_23 x) xs e = clash cc
  sought_sized ok (refused_24 k x) xs e = clash cc
  sought_sized ok (found {xs = ys} k x) xs e = rw (← list_of e) (some ys x.serial, few (dec_lt 7 (length ys)))
    where
      some : (zs : List ℕ) → SerialClear p F zs → 0 < length zs
      some [] y =
          let (c, h) = ok.has_child 0 ok.some_node (λ q. let z = root_all_of k in clash cc) in
          absurd (among_none (y.sequence.every c h))
      some (z ∷ zs) y = omega arith

      few : Dec (7 < length ys) → length ys ≤ 7
      few (yes l) = absurd (k (too_many ys l x.serial.sequence.once x.serial.sequence.child))
      few (no n) = omega (arith, n)

  pub sought_children : {a : ℕ ⊎ List ℕ} → Sought p F a → (xs : List ℕ) → a ≡ inr xs → (c : ℕ) → Among c xs
      → Child p 0 c
  sought_children (refused_23 x) xs e c i = clash cc
  sought_children (refused_24 k x) xs e c i = clash cc
  sought_children (found k x) xs e c i = x.serial.sequence.child c (rw (← list_of e) at i)
