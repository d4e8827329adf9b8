-- What is printed of a refused plan, in 01's words. Definitions only.
use Rattle.std.specs.Prelude.{ℕ, ◌≡◌, List, [], ◌∷◌, ◌++◌}
use Rattle.text_decimals.specs.Decimals.{Plain}

-- REFUSED, in ASCII
abbrev pub refused_letters : List ℕ
refused_letters = 82 ∷ 69 ∷ 70 ∷ 85 ∷ 83 ∷ 69 ∷ 68 ∷ []

-- s is what is printed of a plan with refusal n: REFUSED, space, number, byte 10
pub record IsRefusal (n : ℕ) (s : List ℕ) : Type 0 where
  pub digits : List ℕ
  pub plain : Plain n digits
  pub text : s ≡ refused_letters ++ 32 ∷ digits ++ 10 ∷ []
