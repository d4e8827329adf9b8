-- The value of a condition. Definitions only.
use Rattle.std.specs.Prelude.{ℕ, ◌+◌, ◌*◌, ◌/◌, ◌%◌, Bool, ◌||◌, leb, ltb}

-- the value of a flag, a sign and a place, by 01's numbers
abbrev pub value_of : ℕ → ℕ → ℕ → ℕ
value_of flag sign place = flag + 64 * sign + 128 * place

-- the three parts of a value
unfoldable pub flag_of : ℕ → ℕ
flag_of v = v % 64

unfoldable pub sign_of : ℕ → ℕ
sign_of v = v / 64 % 2

unfoldable pub place_of : ℕ → ℕ
place_of v = v / 128

-- the value is over 383, or its flag is none of the first `flags`
unfoldable pub value_bad : ℕ → ℕ → Bool
value_bad v flags = ltb 383 v || leb flags (flag_of v)
