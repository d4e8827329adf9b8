-- The bytes of a state that shows given states: eight bytes of flags, then 0 waiting, 1 running or 2 done (an optional
-- group: skipped) for each node, then for each node the ordinal of its start in two bytes, the low one first.
use Rattle.std.specs.Prelude.{ℕ, ◌+◌, ◌-◌, ◌*◌, ◌/◌, ◌%◌, Bool, cond, eqb, ltb}
use Rattle.runs.specs.Calls.{World}
use Rattle.runs.specs.Numbers.{status_byte}
use Rattle.base.specs.Count.{num}

-- the byte whose bit k is flag 8 i + k
unfoldable pub flag_byte : (ℕ → Bool) → ℕ → ℕ
flag_byte F i =
    num (F (8 * i + 0)) + 2 * num (F (8 * i + 1)) + 4 * num (F (8 * i + 2)) + 8 * num (F (8 * i + 3))
    + 16 * num (F (8 * i + 4)) + 32 * num (F (8 * i + 5)) + 64 * num (F (8 * i + 6)) + 128 * num (F (8 * i + 7))

-- byte j of numbers of two bytes
unfoldable pub number_byte : (ℕ → ℕ) → ℕ → ℕ
number_byte o j = cond (eqb (j % 2) 0) (o (j / 2) % 256) (o (j / 2) / 256)

-- byte i, where there are m nodes
unfoldable pub shown_byte : ℕ → World → ℕ → ℕ
shown_byte m a i = cond (ltb i 8) (flag_byte a.flag i)
    (cond (ltb i (8 + m)) (status_byte (a.status (i - 8))) (number_byte a.ordinal (i - (8 + m))))
