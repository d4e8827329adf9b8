-- The sizes of the tables, as the code has them. Definitions only.
use Rattle.std.specs.Prelude.{ℕ, ◌+◌, ◌*◌}

abbrev pub NODES : ℕ
NODES = 128

abbrev pub STARTS : ℕ
STARTS = NODES + 1

abbrev pub PAIRS : ℕ
PAIRS = NODES * NODES

-- by place and sign
abbrev pub WORDS : ℕ
WORDS = 6

abbrev pub CONDITIONS : ℕ
CONDITIONS = WORDS * NODES
