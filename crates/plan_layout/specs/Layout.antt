-- What each byte of a plan holds, by the plan's sizes (01: 'Book'). Definitions only.
use Rattle.std.specs.Prelude.{ℕ, ◌+◌, ◌-◌, ◌*◌, ◌/◌, ◌%◌, ◌<◌, ◌≤◌, cond, eqb, ltb}
use Rattle.plan_layout.specs.declared.Sizes.{Sizes}
use Rattle.plan_layout.specs.declared.Part.{Part}
use Rattle.plan_layout.specs.declared.Part.TheVariants.{Size, Start, Name, Parent, Kind, MinutesLow, MinutesHigh}
use Rattle.plan_layout.specs.declared.Part.TheVariants.{Task, ValueLow, ValueHigh, Earlier, Later}

-- 01's greatest sizes
pub record Limited (s : Sizes) : Type 0 where
  pub nodes : s.nodes ≤ 128
  pub conditions : s.conditions ≤ 1024
  pub orders : s.orders ≤ 512
  pub flags : s.flags ≤ 64

-- byte k of the entries: parent, kind and minutes of each node
unfoldable pub entry_part : ℕ → Part
entry_part k = cond (eqb (k % 4) 0) (Parent (k / 4)) (cond (eqb (k % 4) 1) (Kind (k / 4))
    (cond (eqb (k % 4) 2) (MinutesLow (k / 4)) (MinutesHigh (k / 4))))

-- byte k of the values
unfoldable pub value_part : ℕ → Part
value_part k = cond (eqb (k % 2) 0) (ValueLow (k / 2)) (ValueHigh (k / 2))

module _ (s : Sizes) where
  -- number k of the sizes: 01's N, C, K and V
  unfoldable pub size_number : ℕ → ℕ
  size_number k = cond (eqb k 0) s.nodes (cond (eqb k 1) s.conditions (cond (eqb k 2) s.orders s.flags))

  -- byte i of the sizes, the low byte of a number first
  unfoldable pub size_byte : ℕ → ℕ
  size_byte i = cond (eqb (i % 2) 0) (size_number (i / 2) % 256) (size_number (i / 2) / 256)

  -- where the sections begin: entries, conditions' tasks and values, orders' earlier and later nodes; the whole length
  abbrev pub entries_at : ℕ
  entries_at = 16 + 4 * s.nodes

  abbrev pub tasks_at : ℕ
  tasks_at = 16 + 8 * s.nodes

  abbrev pub values_at : ℕ
  values_at = tasks_at + s.conditions

  abbrev pub earlier_at : ℕ
  earlier_at = tasks_at + 3 * s.conditions

  abbrev pub later_at : ℕ
  later_at = earlier_at + s.orders

  abbrev pub plan_length : ℕ
  plan_length = 16 + 8 * s.nodes + 3 * s.conditions + 2 * s.orders

  -- what byte i holds
  unfoldable pub part_at : ℕ → Part
  part_at i =
      cond (ltb i 8) (Size i)
      (cond (ltb i 16) (Start (i - 8))
      (cond (ltb i entries_at) (Name (i - 16))
      (cond (ltb i tasks_at) (entry_part (i - entries_at))
      (cond (ltb i values_at) (Task (i - tasks_at))
      (cond (ltb i earlier_at) (value_part (i - values_at))
      (cond (ltb i later_at) (Earlier (i - earlier_at))
      (Later (i - later_at))))))))

-- a part that a plan of these sizes has
abbrev pub PartOf : Sizes → Part → Type 0
PartOf s (Size i) = i < 8
PartOf s (Start k) = k < 8
PartOf s (Name k) = k < 4 * s.nodes
PartOf s (Parent n) = n < s.nodes
PartOf s (Kind n) = n < s.nodes
PartOf s (MinutesLow n) = n < s.nodes
PartOf s (MinutesHigh n) = n < s.nodes
PartOf s (Task i) = i < s.conditions
PartOf s (ValueLow i) = i < s.conditions
PartOf s (ValueHigh i) = i < s.conditions
PartOf s (Earlier j) = j < s.orders
PartOf s (Later j) = j < s.orders
