-- The flags that are set at the start, as a word. Assumes nothing.
use mathlib.Core.Path.{◌≡◌, refl, sym, ap, ◌∙◌}
use mathlib.Core.Logic.{◌⊎◌, inl, inr, by_cases}
use mathlib.Core.Bool.{Bool, true, false, ◌&&◌, true≢false}
use mathlib.Core.List.{List}
use Prim.Native.Nat.{ℕ, ◌+◌, ◌^◌, ◌<◌}
use native.Mathlib.Decide.{ℕ_discrete}
use native.Mathlib.Omega.{arith}
use lib.Bits.{bit_or}
use lib.Dec.{ltb}
use borrow.Author.Tests.{lt-ltb, ltb-true}
use Rattle.base.specs.Words.{Says}
use Rattle.base.proofs.Says.{says_map, says_none, says_set}
use Rattle.plan_format.specs.Format.{flag_count, start_flag}
use Rattle.plan_check.specs.Meaning.{start_of}
use Rattle.marks_words.specs.Words.{StartWord}

-- those below f
abbrev pub SetBelow : List ℕ → ℕ → ℕ → Type 0
SetBelow b f g = (g < f) × (start_flag b g ≡ true)

module _ (b : List ℕ) (f : ℕ) {word : ℕ} (s : (g : ℕ) → g < 64 → Says word g (SetBelow b f g)) where
  pub start_set : {next : ℕ} → next ≡ bit_or word (2 ^ f) → start_flag b f ≡ true → (g : ℕ) → g < 64
      → Says next g (SetBelow b (f + 1) g)
  start_set e q g l = says_map (to, from) (says_set f e (s g l))
    where
      to : SetBelow b f g ⊎ (g ≡ f) → SetBelow b (f + 1) g
      to (inl x) = (omega (arith, x.0), x.1)
      to (inr z) = (omega (arith, z), ap (start_flag b) z ∙ q)

      from : SetBelow b (f + 1) g → SetBelow b f g ⊎ (g ≡ f)
      from x = by_cases (ℕ_discrete g f) (λ z. inr z) (λ k. inl (omega (arith, x.0), x.1))

  pub start_clear : start_flag b f ≡ false → (g : ℕ) → g < 64 → Says word g (SetBelow b (f + 1) g)
  start_clear q g l = says_map (λ x. (omega (arith, x.0), x.1), from) (s g l)
    where
      from : SetBelow b (f + 1) g → SetBelow b f g
      from x = by_cases (ℕ_discrete g f) (λ (z : g ≡ f). absurd (true≢false (sym x.1 ∙ ap (start_flag b) z ∙ q)))
          (λ k. (omega (arith, x.0), x.1))

pub start_none : (b : List ℕ) (g : ℕ) → Says 0 g (SetBelow b 0 g)
start_none b g = says_none refl (λ x. omega (arith, x.0))

pub start_all : (b : List ℕ) {word : ℕ} → ((g : ℕ) → g < 64 → Says word g (SetBelow b (flag_count b) g))
    → StartWord (start_of b) word
unfolding start_of
start_all b s = record {
  says =
      λ f l. says_map (λ x. rw (lt-ltb f (flag_count b) x.0) x.1, λ e. from f e) (s f l);
}
  where
    split : (x y : Bool) → (x && y) ≡ true → (x ≡ true) × (y ≡ true)
    split true y e = (refl, e)
    split false y e = absurd (true≢false (sym e))

    from : (f : ℕ) → (ltb f (flag_count b) && start_flag b f) ≡ true → SetBelow b (flag_count b) f
    from f e = let x = split (ltb f (flag_count b)) (start_flag b f) e in (ltb-true f (flag_count b) x.0, x.1)
