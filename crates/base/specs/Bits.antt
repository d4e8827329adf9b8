-- A bit of a word, as a test. Definitions only.
use Rattle.std.specs.Prelude.{Bool, ℕ, ◌^◌, ◌/◌, ◌%◌, eqb}

unfoldable pub bit : ℕ → ℕ → Bool
bit w f = eqb (w / 2 ^ f % 2) 1
