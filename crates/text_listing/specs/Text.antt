-- The letters of each verdict, in ASCII. Definitions only.
use Rattle.std.specs.Prelude.{ℕ, List, [], ◌∷◌}
use Rattle.runs.specs.Verdict.{Verdict, CLEAR, DOOMED, OPEN}

abbrev pub letters : Verdict → List ℕ
letters CLEAR = 67 ∷ 76 ∷ 69 ∷ 65 ∷ 82 ∷ []
letters DOOMED = 68 ∷ 79 ∷ 79 ∷ 77 ∷ 69 ∷ 68 ∷ []
letters OPEN = 79 ∷ 80 ∷ 69 ∷ 78 ∷ []
