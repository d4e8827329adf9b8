-- A plan written down in pieces, and its bytes as 01 lays them out. Definitions only.
use Rattle.std.specs.Prelude.{ℕ, suc, ◌/◌, ◌%◌, Bool, List, [], ◌∷◌, ◌++◌, length, replicate}
use Rattle.runs.specs.Plan.{Kind}
use Rattle.runs.specs.Numbers.{kind_number}
use Rattle.run_calls.specs.Shown.{flag_byte}

-- a node: four characters, kind, parent, minutes, and the values of its conditions, rising
pub record Entry : Type 0 where
  pub name : List ℕ
  pub kind : Kind
  pub parent : ℕ
  pub minutes : ℕ
  pub values : List ℕ

-- earlier, later
pub data Order : Type 0 where
  then : ℕ → ℕ → Order

pub record PlanPieces : Type 0 where
  pub flags : ℕ
  pub start : ℕ → Bool
  pub entries : List Entry
  pub orders : List Order

-- a number of 2 bytes
unfoldable pub two : ℕ → List ℕ
two n = n % 256 ∷ n / 256 ∷ []

unfoldable pub twos : List ℕ → List ℕ
twos [] = []
twos (n ∷ l) = two n ++ twos l

-- eight bytes of flags
unfoldable pub eight : (ℕ → Bool) → List ℕ
eight F = flag_byte F 0 ∷ flag_byte F 1 ∷ flag_byte F 2 ∷ flag_byte F 3 ∷ flag_byte F 4 ∷ flag_byte F 5
    ∷ flag_byte F 6 ∷
    flag_byte F 7 ∷ []

unfoldable pub names : List Entry → List ℕ
names [] = []
names (e ∷ l) = e.name ++ names l

unfoldable pub nodes : List Entry → List ℕ
nodes [] = []
nodes (e ∷ l) = e.parent ∷ kind_number e.kind ∷ (two e.minutes ++ nodes l)

-- the node numbers of the conditions, the first node's number n
unfoldable pub condition_nodes : ℕ → List Entry → List ℕ
condition_nodes n [] = []
condition_nodes n (e ∷ l) = replicate (length e.values) n ++ condition_nodes (suc n) l

unfoldable pub condition_values : List Entry → List ℕ
condition_values [] = []
condition_values (e ∷ l) = e.values ++ condition_values l

unfoldable pub earlier_nodes : List Order → List ℕ
earlier_nodes [] = []
earlier_nodes (then a z ∷ l) = a ∷ earlier_nodes l

unfoldable pub later_nodes : List Order → List ℕ
later_nodes [] = []
later_nodes (then a z ∷ l) = z ∷ later_nodes l

unfoldable pub bytes_of : PlanPieces → List ℕ
bytes_of w =
    twos (length w.entries ∷ length (condition_values w.entries) ∷ length w.orders ∷ w.flags ∷ [])
    ++ eight w.start
    ++ names w.entries
    ++ nodes w.entries
    ++ condition_nodes 0 w.entries
    ++ twos (condition_values w.entries)
    ++ earlier_nodes w.orders
    ++ later_nodes w.orders
