-- One node as a set. Definitions only.
use Rattle.std.specs.Prelude.{ℕ, Bool, eqb}

abbrev pub only : ℕ → ℕ → Bool
only t x = eqb x t
