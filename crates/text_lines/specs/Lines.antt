-- The task lines. Definitions only.
use Rattle.std.specs.Prelude.{ℕ, List, [], ◌∷◌, ◌++◌}
use Rattle.plan_format.specs.Format.{name_of}
use Rattle.text_decimals.specs.Decimals.{Plain}

-- s is the lines of the tasks ts, one after another: name, space, longest wait in plain decimals, byte 10
pub data TaskLines (b : List ℕ) (longest : ℕ → ℕ) : List ℕ → List ℕ → Type 0 where
  no_lines : TaskLines b longest [] []
  line : {t : ℕ} {ts digits s : List ℕ} → Plain (longest t) digits → TaskLines b longest ts s
      → TaskLines b longest (t ∷ ts) (name_of b t ++ 32 ∷ digits ++ 10 ∷ s)
