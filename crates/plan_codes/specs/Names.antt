-- The characters of a name: 0-9, A-Z and "-".
use Rattle.std.specs.Prelude.{ℕ, Bool, ◌&&◌, ◌||◌, eqb, leb}

unfoldable pub name_allowed : ℕ → Bool
name_allowed c = (leb 48 c && leb c 57) || ((leb 65 c && leb c 90) || eqb c 45)
