-- A table of counts, one number more: element g counts the numbers below m that pass q g. Assumes nothing.
use mathlib.Core.Path.{◌≡◌, sym, ap, ◌∙◌}
use mathlib.Core.Logic.{by_cases}
use mathlib.Core.Bool.{Bool, true, false}
use mathlib.Core.List.{List}
use Prim.Native.Nat.{ℕ, ◌+◌, ◌<◌}
use native.Mathlib.Decide.{ℕ_discrete}
use native.Mathlib.Omega.{arith}
use lib.ListN.{length, get_or, set, length-set}
use lib.Seq.{get_or-set_same, get_or-set_other}
use Rattle.base.specs.Count.{num, count_below}
use Rattle.base.specs.Zeros.{Zeros}
use Rattle.base.proofs.Count.{count_more}

abbrev pub Tallied : (ℕ → ℕ → Bool) → ℕ → ℕ → List ℕ → Type 0
Tallied q size m t = (length t ≡ size) × ((g : ℕ) → g < size → get_or t g 0 ≡ count_below m (q g))

pub tally_start : (q : ℕ → ℕ → Bool) (size : ℕ) (t : List ℕ) → Zeros size t → Tallied q size 0 t
unfolding count_below
tally_start q size t z = (z.long, z.zero)

module _ (q : ℕ → ℕ → Bool) (size m : ℕ) (t u : List ℕ) (held : Tallied q size m t) where
  same : (g : ℕ) → q g m ≡ false → count_below (m + 1) (q g) ≡ count_below m (q g)
  same g n = omega (arith, count_more m (q g), ap num n)

  -- m is counted at g alone
  pub tally_one : (g : ℕ) → g < size → q g m ≡ true → ((h : ℕ) → (h ≡ g → ⊥) → q h m ≡ false)
      → u ≡ set t g (get_or t g 0 + 1) → Tallied q size (m + 1) u
  tally_one g l y n e = (
    ap length e ∙ length-set t g (get_or t g 0 + 1) ∙ held.0,
    λ h k.
        ap (λ (v : List ℕ). get_or v h 0) e
        ∙ by_cases (ℕ_discrete h g)
        (λ (z : h ≡ g). rw z (get_or-set_same t g (get_or t g 0 + 1) 0 (omega (arith, held.0))
        ∙ omega (arith, held.1 g l, count_more m (q g), ap num y)))
        (λ z. get_or-set_other t g h (get_or t g 0 + 1) 0 z ∙ held.1 h k ∙ sym (same h (n h z))),
  )

  -- m is counted nowhere
  pub tally_none : ((h : ℕ) → h < size → q h m ≡ false) → u ≡ t → Tallied q size (m + 1) u
  tally_none n e = (
    ap length e ∙ held.0,
    λ h k. ap (λ (v : List ℕ). get_or v h 0) e ∙ held.1 h k ∙ sym (same h (n h k)),
  )
