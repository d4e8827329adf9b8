-- Each part of two plans one after another is one of the first or of the second (`byte_first`, `byte_second`). Assumes
-- nothing.
use mathlib.Core.Path.{◌≡◌, ap}
use mathlib.Core.Bool.{true, false}
use Prim.Native.Nat.{ℕ, ◌+◌, ◌-◌, ◌*◌, ◌/◌, ◌%◌, ◌<◌}
use native.Mathlib.Omega.{arith}
use lib.Dec.{ltb}
use borrow.Author.Tests.{lt-ltb, le-ltb, ltb-true, ltb-false}
use Rattle.plan_layout.specs.declared.Sizes.{Sizes}
use Rattle.plan_layout.specs.declared.Part.{Part}
use Rattle.plan_layout.specs.declared.Part.TheVariants.{Size, Start, Name, Parent, Kind, MinutesLow, MinutesHigh, Task}
use Rattle.plan_layout.specs.declared.Part.TheVariants.{ValueLow, ValueHigh, Earlier, Later}
use Rattle.plan_layout.specs.Layout.{PartOf}
use Rattle.plan_layout.specs.Fields.{Fields, byte_in}
use Rattle.plan_parts.specs.Joined.{in_turn, joined_sizes, joined_fields, has_part, part_after}

pub turn_first : (n i : ℕ) (f g : ℕ → ℕ) → i < n → in_turn n f g i ≡ f i
unfolding in_turn
turn_first n i f g l = rw (lt-ltb i n l)

pub turn_second : (n i j : ℕ) (f g : ℕ → ℕ) → i ≡ j + n → in_turn n f g i ≡ g j
unfolding in_turn
turn_second n i j f g e = let q : i - n ≡ j = omega arith in rw (le-ltb i n (omega arith), q)

-- a part after the sizes and the start flags
abbrev pub PastStart : Part → Type 0
PastStart (Size i) = ⊥
PastStart (Start k) = ⊥
PastStart (Name i) = Unit {0}
PastStart (Parent i) = Unit {0}
PastStart (Kind i) = Unit {0}
PastStart (MinutesLow i) = Unit {0}
PastStart (MinutesHigh i) = Unit {0}
PastStart (Task i) = Unit {0}
PastStart (ValueLow i) = Unit {0}
PastStart (ValueHigh i) = Unit {0}
PastStart (Earlier i) = Unit {0}
PastStart (Later i) = Unit {0}

module _ (f g : Fields) where
  pub byte_first : (p : Part) → PastStart p → has_part f.sizes p ≡ true → byte_in (joined_fields f g) p ≡ byte_in f p
  byte_first (Size i) z h = absurd z
  byte_first (Start k) z h = absurd z
  byte_first (Name i) z h = turn_first (4 * f.sizes.nodes) i f.name g.name (ltb-true i (4 * f.sizes.nodes) h)
  byte_first (Parent i) z h = turn_first f.sizes.nodes i f.parent g.parent (ltb-true i f.sizes.nodes h)
  byte_first (Kind i) z h = turn_first f.sizes.nodes i f.kind g.kind (ltb-true i f.sizes.nodes h)
  byte_first (MinutesLow i) z h = ap (λ (x : ℕ). x % 256)
      (turn_first f.sizes.nodes i f.minutes g.minutes (ltb-true i f.sizes.nodes h))
  byte_first (MinutesHigh i) z h = ap (λ (x : ℕ). x / 256)
      (turn_first f.sizes.nodes i f.minutes g.minutes (ltb-true i f.sizes.nodes h))
  byte_first (Task i) z h = turn_first f.sizes.conditions i f.task g.task
      (ltb-true i f.sizes.conditions h)
  byte_first (ValueLow i) z h = ap (λ (x : ℕ). x % 256)
      (turn_first f.sizes.conditions i f.value g.value (ltb-true i f.sizes.conditions h))
  byte_first (ValueHigh i) z h = ap (λ (x : ℕ). x / 256)
      (turn_first f.sizes.conditions i f.value g.value (ltb-true i f.sizes.conditions h))
  byte_first (Earlier i) z h = turn_first f.sizes.orders i f.earlier g.earlier
      (ltb-true i f.sizes.orders h)
  byte_first (Later i) z h = turn_first f.sizes.orders i f.later g.later (ltb-true i f.sizes.orders h)

  -- a later place, counted from n
  after : (n i : ℕ) (x y : ℕ → ℕ) → ltb i n ≡ false → in_turn n x y i ≡ y (i - n)
  after n i x y h = turn_second n i (i - n) x y (omega (arith, ltb-false i n h))

  pub byte_second : (p : Part) → PastStart p → has_part f.sizes p ≡ false
      → byte_in (joined_fields f g) p ≡ byte_in g (part_after f.sizes p)
  byte_second (Size i) z h = absurd z
  byte_second (Start k) z h = absurd z
  byte_second (Name i) z h = after (4 * f.sizes.nodes) i f.name g.name h
  byte_second (Parent i) z h = after f.sizes.nodes i f.parent g.parent h
  byte_second (Kind i) z h = after f.sizes.nodes i f.kind g.kind h
  byte_second (MinutesLow i) z h = ap (λ (x : ℕ). x % 256) (after f.sizes.nodes i f.minutes g.minutes h)
  byte_second (MinutesHigh i) z h = ap (λ (x : ℕ). x / 256) (after f.sizes.nodes i f.minutes g.minutes h)
  byte_second (Task i) z h = after f.sizes.conditions i f.task g.task h
  byte_second (ValueLow i) z h = ap (λ (x : ℕ). x % 256) (after f.sizes.conditions i f.value g.value h)
  byte_second (ValueHigh i) z h = ap (λ (x : ℕ). x / 256) (after f.sizes.conditions i f.value g.value h)
  byte_second (Earlier i) z h = after f.sizes.orders i f.earlier g.earlier h
  byte_second (Later i) z h = after f.sizes.orders i f.later g.later h

-- ---- parts of the first, of the second
module _ (s t : Sizes) where
  pub part_first : (p : Part) → has_part s p ≡ true → PartOf s p
  part_first (Size i) h = ltb-true i 8 h
  part_first (Start i) h = ltb-true i 8 h
  part_first (Name i) h = ltb-true i (4 * s.nodes) h
  part_first (Parent i) h = ltb-true i s.nodes h
  part_first (Kind i) h = ltb-true i s.nodes h
  part_first (MinutesLow i) h = ltb-true i s.nodes h
  part_first (MinutesHigh i) h = ltb-true i s.nodes h
  part_first (Task i) h = ltb-true i s.conditions h
  part_first (ValueLow i) h = ltb-true i s.conditions h
  part_first (ValueHigh i) h = ltb-true i s.conditions h
  part_first (Earlier i) h = ltb-true i s.orders h
  part_first (Later i) h = ltb-true i s.orders h

  pub part_second : (p : Part) → PartOf (joined_sizes s t) p → has_part s p ≡ false → PartOf t (part_after s p)
  part_second (Size i) l h = l
  part_second (Start k) l h = l
  part_second (Name i) l h = omega (arith, ltb-false i (4 * s.nodes) h)
  part_second (Parent i) l h = omega (arith, ltb-false i s.nodes h)
  part_second (Kind i) l h = omega (arith, ltb-false i s.nodes h)
  part_second (MinutesLow i) l h = omega (arith, ltb-false i s.nodes h)
  part_second (MinutesHigh i) l h = omega (arith, ltb-false i s.nodes h)
  part_second (Task i) l h = omega (arith, ltb-false i s.conditions h)
  part_second (ValueLow i) l h = omega (arith, ltb-false i s.conditions h)
  part_second (ValueHigh i) l h = omega (arith, ltb-false i s.conditions h)
  part_second (Earlier i) l h = omega (arith, ltb-false i s.orders h)
  part_second (Later i) l h = omega (arith, ltb-false i s.orders h)

  pub past_start : (p : Part) → PartOf t p → has_part s p ≡ false → PastStart p
  past_start (Size i) l h = omega (arith, ltb-false i 8 h)
  past_start (Start k) l h = omega (arith, ltb-false k 8 h)
  past_start (Name i) l h = tt
  past_start (Parent i) l h = tt
  past_start (Kind i) l h = tt
  past_start (MinutesLow i) l h = tt
  past_start (MinutesHigh i) l h = tt
  past_start (Task i) l h = tt
  past_start (ValueLow i) l h = tt
  past_start (ValueHigh i) l h = tt
  past_start (Earlier i) l h = tt
  past_start (Later i) l h = tt

  pub stays_past : (p : Part) → PastStart p → PastStart (part_after s p)
  stays_past (Size i) z = z
  stays_past (Start k) z = z
  stays_past (Name i) z = tt
  stays_past (Parent i) z = tt
  stays_past (Kind i) z = tt
  stays_past (MinutesLow i) z = tt
  stays_past (MinutesHigh i) z = tt
  stays_past (Task i) z = tt
  stays_past (ValueLow i) z = tt
  stays_past (ValueHigh i) z = tt
  stays_past (Earlier i) z = tt
  stays_past (Later i) z = tt
