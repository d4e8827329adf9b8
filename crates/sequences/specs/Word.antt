-- A sequence as a word of 64 bits. Definitions only.
use Rattle.std.specs.Prelude.{List, [], ◌∷◌, ℕ, zero, suc, ◌+◌, ◌*◌, ◌^◌, ◌/◌, ◌%◌, length}

-- the nodes of a list, each a byte, the first in the lowest
unfoldable pub packed : List ℕ → ℕ
packed [] = 0
packed (c ∷ xs) = packed xs * 256 + c

-- the word of a sequence: its length in the highest byte, its nodes in those below
abbrev pub sequence_word : List ℕ → ℕ
sequence_word xs = length xs * 2 ^ 56 + packed xs

-- the n lowest bytes, and the sequence that a word tells
unfoldable pub low_bytes : ℕ → ℕ → List ℕ
low_bytes zero w = []
low_bytes (suc n) w = w % 256 ∷ low_bytes n (w / 256)

abbrev pub sequence_in : ℕ → List ℕ
sequence_in w = low_bytes (w / 2 ^ 56) w
