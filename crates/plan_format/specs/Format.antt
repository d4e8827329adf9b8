-- The fields of a plan (01: book) as functions of its bytes. Past the end a byte counts as 0.
use Rattle.std.specs.Prelude.{ℕ, ◌+◌, ◌*◌, ◌/◌, ◌%◌, ◌^◌, Bool, ◌&&◌, ◌||◌, List, [], ◌∷◌, get_or, eqb, ltb}

-- the number of 2 bytes at i, little-endian
unfoldable pub u16_at : List ℕ → ℕ → ℕ
u16_at b i = get_or b i 0 + 256 * get_or b (i + 1) 0

-- 01's N, C, K and V
unfoldable pub node_count : List ℕ → ℕ
node_count b = u16_at b 0

unfoldable pub cond_count : List ℕ → ℕ
cond_count b = u16_at b 2

unfoldable pub order_count : List ℕ → ℕ
order_count b = u16_at b 4

unfoldable pub flag_count : List ℕ → ℕ
flag_count b = u16_at b 6

unfoldable pub whole_length : List ℕ → ℕ
whole_length b = 16 + 8 * node_count b + 3 * cond_count b + 2 * order_count b

-- flag f is set at the start: bit f mod 8 of byte 8 + f / 8 is one
unfoldable pub start_flag : List ℕ → ℕ → Bool
start_flag b f = eqb (get_or b (8 + f / 8) 0 / 2 ^ (f % 8) % 2) 1

-- character k of all names; node n has those from 4n to 4n + 3
unfoldable pub name_char : List ℕ → ℕ → ℕ
name_char b k = get_or b (16 + k) 0

-- the four characters of node n's name
unfoldable pub name_of : List ℕ → ℕ → List ℕ
name_of b n = name_char b (4 * n) ∷ name_char b (4 * n + 1) ∷ name_char b (4 * n + 2) ∷ name_char b (4 * n + 3) ∷ []

-- where the entry of node n begins
unfoldable pub entry_at : List ℕ → ℕ → ℕ
entry_at b n = 16 + 4 * node_count b + 4 * n

unfoldable pub parent_of : List ℕ → ℕ → ℕ
parent_of b n = get_or b (entry_at b n) 0

-- 0 task, 1 all-of, 2 any-of; 02: 3 optional (02's perhaps group)
unfoldable pub kind_of : List ℕ → ℕ → ℕ
kind_of b n = get_or b (entry_at b n + 1) 0

unfoldable pub minutes_of : List ℕ → ℕ → ℕ
minutes_of b n = u16_at b (entry_at b n + 2)

-- node and value of condition i
unfoldable pub cond_node : List ℕ → ℕ → ℕ
cond_node b i = get_or b (16 + 8 * node_count b + i) 0

unfoldable pub cond_value : List ℕ → ℕ → ℕ
cond_value b i = u16_at b (16 + 8 * node_count b + cond_count b + 2 * i)

-- earlier and later node of order j
unfoldable pub earlier_of : List ℕ → ℕ → ℕ
earlier_of b j = get_or b (16 + 8 * node_count b + 3 * cond_count b + j) 0

unfoldable pub later_of : List ℕ → ℕ → ℕ
later_of b j = get_or b (16 + 8 * node_count b + 3 * cond_count b + order_count b + j) 0

-- n is a node of the plan, of kind k
unfoldable pub is_kind : List ℕ → ℕ → ℕ → Bool
is_kind b n k = ltb n (node_count b) && eqb (kind_of b n) k

unfoldable pub is_group : List ℕ → ℕ → Bool
is_group b n = is_kind b n 1 || is_kind b n 2 || is_kind b n 3

-- a group of which one branch is taken
unfoldable pub is_choice : List ℕ → ℕ → Bool
is_choice b n = is_kind b n 2 || is_kind b n 3
