-- Lists of pairs, made one piece after another. Definitions only.
use Rattle.std.specs.Prelude.{List, [], ◌++◌, ℕ, zero, suc}

-- f i, f (i + 1) and so on, n of them, one after another
abbrev pub each : (ℕ → List (ℕ × ℕ)) → ℕ → ℕ → List (ℕ × ℕ)
each f i zero = []
each f i (suc n) = f i ++ each f (suc i) n
