-- Refusals as numbers, where 0 is none, and lent memory with its first elements written. Definitions only.
use Rattle.std.specs.Prelude.{◌⊎◌, List, set, ℕ, zero, suc}
use Rattle.std.proofs.Common.{inl, inr}

-- the first of two refusals
abbrev pub first : ℕ → ℕ → ℕ
first zero k = k
first (suc r) k = suc r

-- a refusal, or what is said where there is none
abbrev pub refused_or : {A : Type 0} → ℕ → A → ℕ ⊎ A
refused_or zero x = inr x
refused_or (suc r) x = inl (suc r)

-- a refusal, or what is answered where there is none
abbrev pub refused_else : {A : Type 0} → ℕ → ℕ ⊎ A → ℕ ⊎ A
refused_else zero a = a
refused_else (suc r) a = inl (suc r)

-- xs with f i in the place of each element i below n
unfoldable pub overlay : (ℕ → ℕ) → ℕ → List ℕ → List ℕ
overlay f zero xs = xs
overlay f (suc n) xs = set (overlay f n xs) n (f n)
