-- The laws of `each`. Assumes nothing.
use mathlib.Core.Path.{◌≡◌, refl, sym, ◌∙◌}
use mathlib.Core.List.{List, ◌++◌, append_assoc, append-nil}
use Prim.Native.Nat.{ℕ, zero, suc, ◌+◌, ◌*◌, ◌<◌, ◌≤◌}
use native.Mathlib.Omega.{arith}
use lib.ListN.{length, get_or, length-append, get_or-append}
use lib.Seq.{get_or-append-add}
use Rattle.base.specs.Each.{each}

-- one more at the end
pub each_more : (f : ℕ → List (ℕ × ℕ)) (i n : ℕ) → each f i (suc n) ≡ each f i n ++ f (i + n)
each_more f i zero = let e : i + 0 ≡ i = omega arith in rw (e, append-nil)
each_more f i (suc n) = let e : i + suc n ≡ suc i + n = omega arith in
    rw (e, each_more f (suc i) n) (sym (append_assoc (f i) (each f (suc i) n) (f (suc i + n))))

-- the same pieces, from other places
pub each_moved : (f g : ℕ → List (ℕ × ℕ)) (i j n : ℕ) → ((m : ℕ) → m < n → f (i + m) ≡ g (j + m))
    → each f i n ≡ each g j n
each_moved f g i j zero h = refl
each_moved f g i j (suc n) h =
    let x : i + 0 ≡ i = omega arith in
    let y : j + 0 ≡ j = omega arith in
    rw (
      rw (x, y) at (h 0 (omega arith)),
      each_moved f g (suc i) (suc j) n (λ m l.
          let p : suc i + m ≡ i + suc m = omega arith in
          let q : suc j + m ≡ j + suc m = omega arith in
          rw (p, q) (h (suc m) (omega arith))),
    )

pub each_same : (f g : ℕ → List (ℕ × ℕ)) (i n : ℕ) → ((m : ℕ) → i ≤ m → m < i + n → f m ≡ g m) → each f i n ≡ each g i n
each_same f g i n h = each_moved f g i i n (λ m l. h (i + m) (omega arith) (omega arith))

-- n pieces, then k more
pub each_append : (f : ℕ → List (ℕ × ℕ)) (i n k : ℕ) → each f i (n + k) ≡ each f i n ++ each f (i + n) k
each_append f i zero k =
    let e : i + 0 ≡ i = omega arith in
    let z : 0 + k ≡ k = omega arith in
    rw (e, z)
each_append f i (suc n) k =
    let e : suc n + k ≡ suc (n + k) = omega arith in
    let x : i + suc n ≡ suc i + n = omega arith in
    rw (e, x, each_append f (suc i) n k) (sym (append_assoc (f i) (each f (suc i) n) (each f (suc i + n) k)))

-- w of each
pub each_long : (f : ℕ → List (ℕ × ℕ)) (w : ℕ) → ((m : ℕ) → length (f m) ≡ w) → (i n : ℕ) → length (each f i n) ≡ w * n
each_long f w h i zero = omega arith
each_long f w h i (suc n) = length-append (f i) (each f (suc i) n) ∙ omega (arith, h i, each_long f w h (suc i) n)

-- element k of all is element c of piece p, where each piece has w
pub each_at : (f : ℕ → List (ℕ × ℕ)) (w : ℕ) → ((m : ℕ) → length (f m) ≡ w) → (i n m c k p : ℕ) (d : ℕ × ℕ) → m < n
    → c < w → k ≡ w * m + c → p ≡ i + m → get_or (each f i n) k d ≡ get_or (f p) c d
each_at f w h i zero m c k p d l u x y = absurd (omega arith)
each_at f w h i (suc n) zero c k p d l u x y =
    let s : k ≡ c = omega arith in
    let t : p ≡ i = omega arith in
    rw (s, t) (get_or-append (f i) (each f (suc i) n) d c (omega (arith, h i)))
each_at f w h i (suc n) (suc m) c k p d l u x y =
    let s : k ≡ length (f i) + (w * m + c) = omega (arith, h i) in
    rw s (get_or-append-add (f i) (each f (suc i) n) (w * m + c) d
    ∙ each_at f w h (suc i) n m c (w * m + c) p d (omega arith) u refl (omega arith))
