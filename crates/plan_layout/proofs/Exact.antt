-- Bytes with the fields of a plan are the ones laid out from these fields. Assumes nothing.
use mathlib.Core.Path.{◌≡◌, sym, ap, ◌∙◌}
use mathlib.Core.Logic.{by_cases}
use mathlib.Core.List.{List}
use Prim.Native.Nat.{ℕ, zero, suc, ◌+◌, ◌-◌, ◌*◌, ◌/◌, ◌%◌, ◌<◌, ◌≤◌}
use native.Mathlib.Decide.{ℕ_discrete, dec_lt}
use native.Mathlib.Omega.{arith}
use lib.ListN.{get_or}
use Rattle.base.specs.Bytes.{Bytes}
use Rattle.plan_format.specs.Format.{u16_at, node_count, cond_count, order_count, flag_count, name_char, entry_at}
use Rattle.plan_format.specs.Format.{parent_of}
use Rattle.plan_format.specs.Format.{kind_of, minutes_of, cond_node, cond_value, earlier_of, later_of}
use Rattle.plan_layout.specs.declared.Sizes.{Sizes}
use Rattle.plan_layout.specs.declared.Part.{Part}
use Rattle.plan_layout.specs.declared.Part.TheVariants.{Size, Start, Name, Parent, Kind, MinutesLow, MinutesHigh}
use Rattle.plan_layout.specs.declared.Part.TheVariants.{Task, ValueLow, ValueHigh, Earlier, Later}
use Rattle.plan_layout.specs.Layout.{size_number, entries_at, tasks_at, values_at, earlier_at, later_at, plan_length}
use Rattle.plan_layout.specs.Layout.{part_at}
use Rattle.plan_layout.specs.Fields.{Fields, byte_in, byte_at, Laid}
use Rattle.plan_layout.proofs.Parts.{entry_parent, entry_kind, entry_low, entry_high, value_low, value_high}
use Rattle.plan_layout.proofs.Parts.{at_size, at_start, at_name, at_entry, at_task, at_value, at_earlier}
use Rattle.plan_layout.proofs.Parts.{at_later, number_nodes, number_conditions, number_orders, number_flags}
use Rattle.plan_layout.proofs.Parts.{size_low, size_high}

module _ (f : Fields) (b : List ℕ) (l : Laid b f) (small : Bytes b) where
  abbrev s : Sizes
  s = f.sizes

  -- byte i holds the part x; k is i, as the field has it
  holds : (i k : ℕ) (x : Part) → x ≡ part_at s i → k ≡ i → get_or b k 0 ≡ byte_in f x → get_or b i 0 ≡ byte_at f i
  unfolding byte_at
  holds i k x e q h = ap (λ (m : ℕ). get_or b m 0) (sym q) ∙ h ∙ ap (byte_in f) e

  -- the bytes of a number
  low : (i : ℕ) {v : ℕ} → u16_at b i ≡ v → get_or b i 0 ≡ v % 256
  unfolding u16_at
  low i e = omega (arith, small i)

  high : (i : ℕ) {v : ℕ} → u16_at b i ≡ v → get_or b (i + 1) 0 ≡ v / 256
  unfolding u16_at
  high i e = omega (arith, small i)

  -- ---- the sizes
  number_is : (k : ℕ) → k < 4 → u16_at b (2 * k) ≡ size_number s k
  unfolding node_count cond_count order_count flag_count
  number_is zero h = l.nodes ∙ number_nodes s 0 (omega arith)
  number_is (suc zero) h = l.conditions ∙ number_conditions s 1 (omega arith)
  number_is (suc (suc zero)) h = l.orders ∙ number_orders s 2 (omega arith)
  number_is (suc (suc (suc zero))) h = l.flags ∙ number_flags s 3 (omega arith)
  number_is (suc (suc (suc (suc k)))) h = absurd (omega arith)

  size_is : (i : ℕ) → i < 8 → get_or b i 0 ≡ byte_at f i
  size_is i h =
      let k = 2 * (i / 2) in
      let n = number_is (i / 2) (omega arith) in
      let e = at_size s i h in
      by_cases (ℕ_discrete (i % 2) 0)
      (λ (z : i % 2 ≡ 0). holds i k (Size i) e (omega arith) (low k n ∙ size_low s i z))
      (λ z. holds i (k + 1) (Size i) e (omega arith) (high k n ∙ size_high s i (omega arith)))

  -- ---- start flags and names
  start_is : (i : ℕ) → 8 ≤ i → i < 16 → get_or b i 0 ≡ byte_at f i
  start_is i h m = let k = i - 8 in
      holds i (8 + k) (Start k) (at_start s i h m) (omega arith) (l.start k (omega arith))

  name_is : (i : ℕ) → 16 ≤ i → i < entries_at s → get_or b i 0 ≡ byte_at f i
  unfolding name_char
  name_is i h m = let k = i - 16 in
      holds i (16 + k) (Name k) (at_name s i h m) (omega arith) (l.name k (omega arith))

  -- ---- the entries
  entry_is : (i : ℕ) → entries_at s ≤ i → i < tasks_at s → get_or b i 0 ≡ byte_at f i
  unfolding entry_at parent_of kind_of minutes_of
  entry_is i h m =
      let c = l.nodes in
      let k = i - entries_at s in
      let n = k / 4 in
      let j = entry_at b n in
      let d : n < s.nodes = omega arith in
      let e = at_entry s i h m in
      by_cases (ℕ_discrete (k % 4) 0)
      (λ (z : k % 4 ≡ 0). holds i j (Parent n) (entry_parent k z ∙ e) (omega arith) (l.parent n d))
      (λ x. by_cases (ℕ_discrete (k % 4) 1)
      (λ (z : k % 4 ≡ 1). holds i (j + 1) (Kind n) (entry_kind k z ∙ e) (omega arith) (l.kind n d))
      (λ y. by_cases (ℕ_discrete (k % 4) 2)
      (λ (z : k % 4 ≡ 2). holds i (j + 2) (MinutesLow n) (entry_low k z ∙ e) (omega arith)
      (low (j + 2) (l.minutes n d)))
      (λ z. holds i (j + 2 + 1) (MinutesHigh n) (entry_high k (omega arith) ∙ e) (omega arith)
      (high (j + 2) (l.minutes n d)))))

  -- ---- the conditions
  task_is : (i : ℕ) → tasks_at s ≤ i → i < values_at s → get_or b i 0 ≡ byte_at f i
  unfolding cond_node
  task_is i h m =
      let c = l.nodes in
      let k = i - tasks_at s in
      let j = 16 + 8 * node_count b + k in
      holds i j (Task k) (at_task s i h m) (omega arith) (l.task k (omega arith))

  value_is : (i : ℕ) → values_at s ≤ i → i < earlier_at s → get_or b i 0 ≡ byte_at f i
  unfolding cond_value
  value_is i h m =
      let c = l.nodes in
      let d = l.conditions in
      let k = i - values_at s in
      let n = k / 2 in
      let j = 16 + 8 * node_count b + cond_count b + 2 * n in
      let v = l.value n (omega arith) in
      let e = at_value s i h m in
      by_cases (ℕ_discrete (k % 2) 0)
      (λ (z : k % 2 ≡ 0). holds i j (ValueLow n) (value_low k z ∙ e) (omega arith) (low j v))
      (λ z. holds i (j + 1) (ValueHigh n) (value_high k (omega arith) ∙ e) (omega arith) (high j v))

  -- ---- the orders
  earlier_is : (i : ℕ) → earlier_at s ≤ i → i < later_at s → get_or b i 0 ≡ byte_at f i
  unfolding earlier_of
  earlier_is i h m =
      let c = l.nodes in
      let d = l.conditions in
      let k = i - earlier_at s in
      let j = 16 + 8 * node_count b + 3 * cond_count b + k in
      holds i j (Earlier k) (at_earlier s i h m) (omega arith) (l.earlier k (omega arith))

  later_is : (i : ℕ) → later_at s ≤ i → i < plan_length s → get_or b i 0 ≡ byte_at f i
  unfolding later_of
  later_is i h m =
      let c = l.nodes in
      let d = l.conditions in
      let o = l.orders in
      let k = i - later_at s in
      let j = 16 + 8 * node_count b + 3 * cond_count b + order_count b + k in
      holds i j (Later k) (at_later s i h) (omega arith) (l.later k (omega arith))

  pub laid_byte : (i : ℕ) → i < plan_length s → get_or b i 0 ≡ byte_at f i
  laid_byte i h =
      by_cases (dec_lt i 8) (λ (m : i < 8). size_is i m)
      (λ p. by_cases (dec_lt i 16) (λ (m : i < 16). start_is i (omega arith) m)
      (λ q. by_cases (dec_lt i (entries_at s)) (λ (m : i < entries_at s). name_is i (omega arith) m)
      (λ r. by_cases (dec_lt i (tasks_at s)) (λ (m : i < tasks_at s). entry_is i (omega arith) m)
      (λ t. by_cases (dec_lt i (values_at s)) (λ (m : i < values_at s). task_is i (omega arith) m)
      (λ u. by_cases (dec_lt i (earlier_at s)) (λ (m : i < earlier_at s). value_is i (omega arith) m)
      (λ v. by_cases (dec_lt i (later_at s)) (λ (m : i < later_at s). earlier_is i (omega arith) m)
      (λ w. later_is i (omega arith) h)))))))
