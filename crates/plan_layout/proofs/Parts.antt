-- What a byte holds, by the section in which it lies. Assumes nothing.
use mathlib.Core.Path.{◌≡◌}
use mathlib.Core.Logic.{by_cases}
use mathlib.Core.Bool.{Bool, true, false, cond}
use Prim.Native.Nat.{ℕ, ◌-◌, ◌*◌, ◌/◌, ◌%◌, ◌<◌, ◌≤◌}
use native.Mathlib.Decide.{dec_lt}
use native.Mathlib.Omega.{arith}
use lib.Dec.{eqb}
use borrow.Author.Tests.{lt-ltb, le-ltb, eq-eqb, ne_eqb}
use Rattle.plan_layout.specs.declared.Sizes.{Sizes}
use Rattle.plan_layout.specs.declared.Part.TheVariants.{Size, Start, Name, Parent, Kind, MinutesLow, MinutesHigh}
use Rattle.plan_layout.specs.declared.Part.TheVariants.{Task, ValueLow, ValueHigh, Earlier, Later}
use Rattle.plan_layout.specs.Layout.{Limited, size_number, size_byte, entry_part, value_part, entries_at, tasks_at}
use Rattle.plan_layout.specs.Layout.{values_at, earlier_at, later_at, plan_length, part_at, PartOf}

-- ---- the fields of an entry, and the halves of a value
module _ (k : ℕ) where
  pub entry_parent : k % 4 ≡ 0 → Parent (k / 4) ≡ entry_part k
  unfolding entry_part
  entry_parent e = rw (eq-eqb (k % 4) 0 e)

  pub entry_kind : k % 4 ≡ 1 → Kind (k / 4) ≡ entry_part k
  unfolding entry_part
  entry_kind e = rw (ne_eqb (k % 4) 0 (λ z. omega arith), eq-eqb (k % 4) 1 e)

  pub entry_low : k % 4 ≡ 2 → MinutesLow (k / 4) ≡ entry_part k
  unfolding entry_part
  entry_low e = rw (ne_eqb (k % 4) 0 (λ z. omega arith), ne_eqb (k % 4) 1 (λ z. omega arith), eq-eqb (k % 4) 2 e)

  pub entry_high : k % 4 ≡ 3 → MinutesHigh (k / 4) ≡ entry_part k
  unfolding entry_part
  entry_high e = rw (
    ne_eqb (k % 4) 0 (λ z. omega arith),
    ne_eqb (k % 4) 1 (λ z. omega arith),
    ne_eqb (k % 4) 2 (λ z. omega arith),
  )

  pub value_low : k % 2 ≡ 0 → ValueLow (k / 2) ≡ value_part k
  unfolding value_part
  value_low e = rw (eq-eqb (k % 2) 0 e)

  pub value_high : k % 2 ≡ 1 → ValueHigh (k / 2) ≡ value_part k
  unfolding value_part
  value_high e = rw (ne_eqb (k % 2) 0 (λ z. omega arith))

-- ---- the sections
module _ (s : Sizes) (i : ℕ) where
  pub at_size : i < 8 → Size i ≡ part_at s i
  unfolding part_at
  at_size l = rw (lt-ltb i 8 l)

  pub at_start : 8 ≤ i → i < 16 → Start (i - 8) ≡ part_at s i
  unfolding part_at
  at_start h l = rw (le-ltb i 8 h, lt-ltb i 16 l)

  pub at_name : 16 ≤ i → i < entries_at s → Name (i - 16) ≡ part_at s i
  unfolding part_at
  at_name h l = rw (le-ltb i 8 (omega arith), le-ltb i 16 h, lt-ltb i (entries_at s) l)

  pub at_entry : entries_at s ≤ i → i < tasks_at s → entry_part (i - entries_at s) ≡ part_at s i
  unfolding part_at
  at_entry h l = rw (
    le-ltb i 8 (omega arith),
    le-ltb i 16 (omega arith),
    le-ltb i (entries_at s) h,
    lt-ltb i (tasks_at s) l,
  )

  pub at_task : tasks_at s ≤ i → i < values_at s → Task (i - tasks_at s) ≡ part_at s i
  unfolding part_at
  at_task h l = rw (
    le-ltb i 8 (omega arith),
    le-ltb i 16 (omega arith),
    le-ltb i (entries_at s) (omega arith),
    le-ltb i (tasks_at s) h,
    lt-ltb i (values_at s) l,
  )

  pub at_value : values_at s ≤ i → i < earlier_at s → value_part (i - values_at s) ≡ part_at s i
  unfolding part_at
  at_value h l = rw (
    le-ltb i 8 (omega arith),
    le-ltb i 16 (omega arith),
    le-ltb i (entries_at s) (omega arith),
    le-ltb i (tasks_at s) (omega arith),
    le-ltb i (values_at s) h,
    lt-ltb i (earlier_at s) l,
  )

  pub at_earlier : earlier_at s ≤ i → i < later_at s → Earlier (i - earlier_at s) ≡ part_at s i
  unfolding part_at
  at_earlier h l = rw (
    le-ltb i 8 (omega arith),
    le-ltb i 16 (omega arith),
    le-ltb i (entries_at s) (omega arith),
    le-ltb i (tasks_at s) (omega arith),
    le-ltb i (values_at s) (omega arith),
    le-ltb i (earlier_at s) h,
    lt-ltb i (later_at s) l,
  )

  pub at_later : later_at s ≤ i → Later (i - later_at s) ≡ part_at s i
  unfolding part_at
  at_later h = rw (
    le-ltb i 8 (omega arith),
    le-ltb i 16 (omega arith),
    le-ltb i (entries_at s) (omega arith),
    le-ltb i (tasks_at s) (omega arith),
    le-ltb i (values_at s) (omega arith),
    le-ltb i (earlier_at s) (omega arith),
    le-ltb i (later_at s) h,
  )

-- ---- every byte of a plan holds a part that the plan has
module _ (s : Sizes) where
  entry_within : (k : ℕ) → k < 4 * s.nodes → PartOf s (entry_part k)
  unfolding entry_part
  entry_within k l = at (eqb (k % 4) 0) (eqb (k % 4) 1) (eqb (k % 4) 2)
    where
      at : (x y z : Bool) → PartOf s (cond x (Parent (k / 4))
          (cond y (Kind (k / 4)) (cond z (MinutesLow (k / 4)) (MinutesHigh (k / 4)))))
      at true y z = omega arith
      at false true z = omega arith
      at false false true = omega arith
      at false false false = omega arith

  value_within : (k : ℕ) → k < 2 * s.conditions → PartOf s (value_part k)
  unfolding value_part
  value_within k l = at (eqb (k % 2) 0)
    where
      at : (x : Bool) → PartOf s (cond x (ValueLow (k / 2)) (ValueHigh (k / 2)))
      at true = omega arith
      at false = omega arith

  pub part_of : (i : ℕ) → i < plan_length s → PartOf s (part_at s i)
  part_of i l =
      by_cases (dec_lt i 8) (λ (a : i < 8). rw (← at_size s i a) a)
      (λ a. by_cases (dec_lt i 16) (λ (b : i < 16). rw (← at_start s i (omega arith) b) (omega arith))
      (λ b. by_cases (dec_lt i (entries_at s))
      (λ (c : i < entries_at s). rw (← at_name s i (omega arith) c) (omega arith))
      (λ c. by_cases (dec_lt i (tasks_at s))
      (λ (d : i < tasks_at s). rw (← at_entry s i (omega arith) d) (entry_within (i - entries_at s) (omega arith)))
      (λ d. by_cases (dec_lt i (values_at s))
      (λ (e : i < values_at s). rw (← at_task s i (omega arith) e) (omega arith))
      (λ e. by_cases (dec_lt i (earlier_at s))
      (λ (f : i < earlier_at s). rw (← at_value s i (omega arith) f) (value_within (i - values_at s) (omega arith)))
      (λ f. by_cases (dec_lt i (later_at s))
      (λ (g : i < later_at s). rw (← at_earlier s i (omega arith) g) (omega arith))
      (λ g. rw (← at_later s i (omega arith)) (omega arith))))))))

-- ---- the sizes
module _ (s : Sizes) (k : ℕ) where
  pub number_nodes : k ≡ 0 → s.nodes ≡ size_number s k
  unfolding size_number
  number_nodes e = rw (eq-eqb k 0 e)

  pub number_conditions : k ≡ 1 → s.conditions ≡ size_number s k
  unfolding size_number
  number_conditions e = rw (ne_eqb k 0 (λ z. omega arith), eq-eqb k 1 e)

  pub number_orders : k ≡ 2 → s.orders ≡ size_number s k
  unfolding size_number
  number_orders e = rw (ne_eqb k 0 (λ z. omega arith), ne_eqb k 1 (λ z. omega arith), eq-eqb k 2 e)

  pub number_flags : 3 ≤ k → s.flags ≡ size_number s k
  unfolding size_number
  number_flags l = rw (ne_eqb k 0 (λ z. omega arith), ne_eqb k 1 (λ z. omega arith), ne_eqb k 2 (λ z. omega arith))

  pub number_small : Limited s → size_number s k ≤ 1024
  unfolding size_number
  number_small l = at (eqb k 0) (eqb k 1) (eqb k 2)
    where
      at : (x y z : Bool) → cond x s.nodes (cond y s.conditions (cond z s.orders s.flags)) ≤ 1024
      at true y z = omega (arith, l.nodes)
      at false true z = l.conditions
      at false false true = omega (arith, l.orders)
      at false false false = omega (arith, l.flags)

module _ (s : Sizes) (i : ℕ) where
  pub size_low : i % 2 ≡ 0 → size_number s (i / 2) % 256 ≡ size_byte s i
  unfolding size_byte
  size_low e = rw (eq-eqb (i % 2) 0 e)

  pub size_high : i % 2 ≡ 1 → size_number s (i / 2) / 256 ≡ size_byte s i
  unfolding size_byte
  size_high e = rw (ne_eqb (i % 2) 0 (λ z. omega arith))
