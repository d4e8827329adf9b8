-- The fields of two plans one after another, and of a plan under shifted node numbers; the same of their parts.
-- Definitions only.
use Rattle.std.specs.Prelude.{ℕ, ◌+◌, ◌-◌, ◌*◌, max, Bool, cond, eqb, ltb, leb}
use Rattle.plan_layout.specs.declared.Sizes.{Sizes}
use Rattle.plan_layout.specs.declared.Part.{Part}
use Rattle.plan_layout.specs.declared.Part.TheVariants.{Size, Start, Name, Parent, Kind, MinutesLow, MinutesHigh, Task}
use Rattle.plan_layout.specs.declared.Part.TheVariants.{ValueLow, ValueHigh, Earlier, Later}
use Rattle.plan_layout.specs.Fields.{Fields}

-- the first n by f, then those of g
unfoldable pub in_turn : ℕ → (ℕ → ℕ) → (ℕ → ℕ) → ℕ → ℕ
in_turn n f g i = cond (ltb i n) (f i) (g (i - n))

abbrev pub joined_sizes : Sizes → Sizes → Sizes
joined_sizes s t = record {
  nodes = s.nodes + t.nodes;
  conditions = s.conditions + t.conditions;
  orders = s.orders + t.orders;
  flags = max s.flags t.flags;
}

-- all of f, then all of g; the start flags of the one with more flags
abbrev pub joined_fields : Fields → Fields → Fields
joined_fields f g = record {
  sizes = joined_sizes f.sizes g.sizes;
  start = λ k. cond (leb f.sizes.flags g.sizes.flags) (g.start k) (f.start k);
  name = in_turn (4 * f.sizes.nodes) f.name g.name;
  parent = in_turn f.sizes.nodes f.parent g.parent;
  kind = in_turn f.sizes.nodes f.kind g.kind;
  minutes = in_turn f.sizes.nodes f.minutes g.minutes;
  task = in_turn f.sizes.conditions f.task g.task;
  value = in_turn f.sizes.conditions f.value g.value;
  earlier = in_turn f.sizes.orders f.earlier g.earlier;
  later = in_turn f.sizes.orders f.later g.later;
}

-- node numbers shifted by s; the root goes under node 0
unfoldable pub parent_under : ℕ → (ℕ → ℕ) → ℕ → ℕ
parent_under s parent n = cond (eqb n 0) 0 (parent n + s)

abbrev pub shifted_fields : ℕ → Fields → Fields
shifted_fields s f = record {
  sizes = f.sizes;
  start = f.start;
  name = f.name;
  parent = parent_under s f.parent;
  kind = f.kind;
  minutes = f.minutes;
  task = λ i. f.task i + s;
  value = f.value;
  earlier = λ j. f.earlier j + s;
  later = λ j. f.later j + s;
}

-- a plan of these sizes has the part
abbrev pub has_part : Sizes → Part → Bool
has_part s (Size i) = ltb i 8
has_part s (Start k) = ltb k 8
has_part s (Name k) = ltb k (4 * s.nodes)
has_part s (Parent n) = ltb n s.nodes
has_part s (Kind n) = ltb n s.nodes
has_part s (MinutesLow n) = ltb n s.nodes
has_part s (MinutesHigh n) = ltb n s.nodes
has_part s (Task i) = ltb i s.conditions
has_part s (ValueLow i) = ltb i s.conditions
has_part s (ValueHigh i) = ltb i s.conditions
has_part s (Earlier j) = ltb j s.orders
has_part s (Later j) = ltb j s.orders

-- a later part, counted from where a plan of these sizes ends
abbrev pub part_after : Sizes → Part → Part
part_after s (Size i) = Size i
part_after s (Start k) = Start k
part_after s (Name k) = Name (k - 4 * s.nodes)
part_after s (Parent n) = Parent (n - s.nodes)
part_after s (Kind n) = Kind (n - s.nodes)
part_after s (MinutesLow n) = MinutesLow (n - s.nodes)
part_after s (MinutesHigh n) = MinutesHigh (n - s.nodes)
part_after s (Task i) = Task (i - s.conditions)
part_after s (ValueLow i) = ValueLow (i - s.conditions)
part_after s (ValueHigh i) = ValueHigh (i - s.conditions)
part_after s (Earlier j) = Earlier (j - s.orders)
part_after s (Later j) = Later (j - s.orders)
