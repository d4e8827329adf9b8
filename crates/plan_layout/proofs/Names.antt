-- The four characters of a node's name. Assumes nothing.
use mathlib.Core.Path.{◌≡◌, refl, sym, ap, ◌∙◌}
use mathlib.Core.List.{List, [], ◌∷◌}
use Prim.Native.Nat.{ℕ, zero, suc, ◌+◌, ◌*◌, ◌/◌, ◌%◌, ◌<◌}
use native.Mathlib.Omega.{arith}
use lib.ListN.{get_or}

abbrev pub four : (ℕ → ℕ) → ℕ → List ℕ
four f n = f (4 * n) ∷ f (4 * n + 1) ∷ f (4 * n + 2) ∷ f (4 * n + 3) ∷ []

four_at : (f : ℕ → ℕ) (n c : ℕ) → c < 4 → get_or (four f n) c 0 ≡ f (4 * n + c)
four_at f n zero l = let e : 4 * n + 0 ≡ 4 * n = omega arith in rw e
four_at f n (suc zero) l = refl
four_at f n (suc (suc zero)) l = refl
four_at f n (suc (suc (suc zero))) l = refl
four_at f n (suc (suc (suc (suc c)))) l = absurd (omega arith)

-- names that are equal have equal characters
pub same_four : (f g : ℕ → ℕ) (k : ℕ) → four f (k / 4) ≡ four g (k / 4) → f k ≡ g k
same_four f g k e =
    let q : 4 * (k / 4) + k % 4 ≡ k = omega arith in
    rw q at (sym (four_at f (k / 4) (k % 4) (omega arith)) ∙ ap (λ (c : List ℕ). get_or c (k % 4) 0) e
    ∙ four_at g (k / 4) (k % 4) (omega arith))
