-- Flags in bytes: flag f is bit f mod 8 (bit 0 lowest) of byte f / 8.
use Rattle.std.specs.Prelude.{ℕ, ◌/◌, ◌%◌, Bool, List, get_or}
use Rattle.base.specs.Bits.{bit}

unfoldable pub flag_in : List ℕ → ℕ → Bool
flag_in bytes f = bit (get_or bytes (f / 8) 0) (f % 8)
