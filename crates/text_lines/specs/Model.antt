-- The task lines, computed. Definitions only.
use Rattle.std.specs.Prelude.{ℕ, List, [], ◌∷◌, ◌++◌}
use Rattle.plan_format.specs.Format.{name_of}
use Rattle.text_decimals.specs.Model.{decimal}

-- a line ends in a space, a plain decimal and byte 10
unfoldable pub ending : ℕ → List ℕ
ending n = 32 ∷ decimal n ++ (10 ∷ [])

-- the line of a task that waits w: name, space, w
unfoldable pub line_of : List ℕ → ℕ → ℕ → List ℕ
line_of b t w = name_of b t ++ ending w

-- the lines of tasks, each by its wait
unfoldable pub lines_of : List ℕ → (ℕ → ℕ) → List ℕ → List ℕ
lines_of b wait [] = []
lines_of b wait (t ∷ ts) = line_of b t (wait t) ++ lines_of b wait ts
