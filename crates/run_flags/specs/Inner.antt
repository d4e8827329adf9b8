-- Inner contracts: flags that are all alike, and flags made true or false. Definitions only.
use Rattle.std.specs.Prelude.{ℕ, ◌/◌, ◌%◌, ◌^◌, Bool, true, false, cond, List, get_or, set}
use Rattle.std.specs.Int.Bits.{bit_or, bit_xor}
use Rattle.base.specs.Bits.{bit}

-- a byte whose eight flags have the sign
abbrev pub all_byte : Bool → ℕ
all_byte true = 255
all_byte false = 0

-- the byte x with bit k made the sign
unfoldable pub byte_with : ℕ → ℕ → Bool → ℕ
byte_with x k s = cond s (bit_or x (2 ^ k)) (cond (bit x k) (bit_xor x (2 ^ k)) x)

-- the bytes with the literal made true: flag f at the sign
unfoldable pub with_flag : List ℕ → ℕ → Bool → List ℕ
with_flag bytes f s = set bytes (f / 8) (byte_with (get_or bytes (f / 8) 0) (f % 8) s)
