-- Lists of bytes. Definitions only.
use Rattle.std.specs.Prelude.{List, ℕ, ◌<◌, get_or}

-- the numbers of a list are bytes
abbrev pub Bytes : List ℕ → Type 0
Bytes b = (i : ℕ) → get_or b i 0 < 256
