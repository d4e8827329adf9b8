-- Bytes laid out from fields have these fields. Assumes nothing.
use mathlib.Core.Path.{◌≡◌, refl, sym, ap, ◌∙◌}
use mathlib.Core.List.{List}
use Prim.Native.Nat.{ℕ, ◌+◌, ◌-◌, ◌*◌, ◌/◌, ◌%◌, ◌<◌, ◌≤◌}
use native.Mathlib.Omega.{arith}
use lib.ListN.{length, get_or, take, replicate, length-take, length-replicate}
use lib.Seq.{get_or-take}
use Rattle.base.specs.Answers.{overlay}
use Rattle.base.proofs.Overlay.{length_overlay, at_overlay}
use Rattle.plan_format.specs.Format.{u16_at, node_count, cond_count, order_count, flag_count, name_char, entry_at}
use Rattle.plan_format.specs.Format.{parent_of}
use Rattle.plan_format.specs.Format.{kind_of, minutes_of, cond_node, cond_value, earlier_of, later_of}
use Rattle.plan_layout.specs.declared.Part.{Part}
use Rattle.plan_layout.specs.declared.Part.TheVariants.{Size, Start, Name}
use Rattle.plan_layout.specs.declared.Part.TheVariants.{Task, Earlier, Later}
use Rattle.plan_layout.specs.Layout.{size_number, entry_part, value_part, entries_at, tasks_at, values_at, earlier_at}
use Rattle.plan_layout.specs.Layout.{later_at, plan_length, part_at}
use Rattle.plan_layout.specs.Fields.{Fields, byte_in, byte_at, laid_bytes, Laid}
use Rattle.plan_layout.proofs.Parts.{entry_parent, entry_kind, entry_low, entry_high, value_low, value_high}
use Rattle.plan_layout.proofs.Parts.{at_size, at_start, at_name, at_entry, at_task, at_value, at_earlier}
use Rattle.plan_layout.proofs.Parts.{at_later, number_nodes, number_conditions, number_orders, number_flags}
use Rattle.plan_layout.proofs.Parts.{size_low, size_high}

-- the bytes b, as many as the fields take, are those of the fields
module _ (f : Fields) (b : List ℕ) (long : length b ≡ plan_length f.sizes)
    (is : (i : ℕ) → i < plan_length f.sizes → get_or b i 0 ≡ byte_at f i) where
  -- a byte, by the part that it holds
  holds : (i : ℕ) (x : Part) → i < plan_length f.sizes → x ≡ part_at f.sizes i → get_or b i 0 ≡ byte_in f x
  unfolding byte_at
  holds i x l e = is i l ∙ ap (byte_in f) (sym e)

  -- a number of two bytes
  two : (i v : ℕ) → get_or b i 0 ≡ v % 256 → get_or b (i + 1) 0 ≡ v / 256 → u16_at b i ≡ v
  unfolding u16_at
  two i v x y = rw (x, y) (omega arith)

  -- number k of the sizes
  size_is : (k i v : ℕ) → k < 4 → i ≡ 2 * k → v ≡ size_number f.sizes k → u16_at b i ≡ v
  size_is k i v l e n =
      let x : i / 2 ≡ k = omega arith in
      let y : (i + 1) / 2 ≡ k = omega arith in
      two i v
      (holds i (Size i) (omega arith) (at_size f.sizes i (omega arith)) ∙ sym (size_low f.sizes i (omega arith))
      ∙ rw (x, n))
      (holds (i + 1) (Size (i + 1)) (omega arith) (at_size f.sizes (i + 1) (omega arith))
      ∙ sym (size_high f.sizes (i + 1) (omega arith)) ∙ rw (y, n))

  nodes_are : node_count b ≡ f.sizes.nodes
  unfolding node_count
  nodes_are = size_is 0 0 f.sizes.nodes (omega arith) refl (number_nodes f.sizes 0 refl)

  conditions_are : cond_count b ≡ f.sizes.conditions
  unfolding cond_count
  conditions_are = size_is 1 2 f.sizes.conditions (omega arith) refl (number_conditions f.sizes 1 refl)

  orders_are : order_count b ≡ f.sizes.orders
  unfolding order_count
  orders_are = size_is 2 4 f.sizes.orders (omega arith) refl (number_orders f.sizes 2 refl)

  flags_are : flag_count b ≡ f.sizes.flags
  unfolding flag_count
  flags_are = size_is 3 6 f.sizes.flags (omega arith) refl (number_flags f.sizes 3 (omega arith))

  start_is : (k : ℕ) → k < 8 → get_or b (8 + k) 0 ≡ f.start k
  start_is k l = let q : 8 + k - 8 ≡ k = omega arith in
      holds (8 + k) (Start (8 + k - 8)) (omega arith) (at_start f.sizes (8 + k) (omega arith) (omega arith)) ∙ rw q

  name_is : (k : ℕ) → k < 4 * f.sizes.nodes → name_char b k ≡ f.name k
  unfolding name_char
  name_is k l = let q : 16 + k - 16 ≡ k = omega arith in
      holds (16 + k) (Name (16 + k - 16)) (omega arith) (at_name f.sizes (16 + k) (omega arith) (omega arith)) ∙ rw q

  -- byte k of the entry of node n
  entry_is : (n k i : ℕ) → n < f.sizes.nodes → k < 4 → i ≡ entry_at b n + k
      → get_or b i 0 ≡ byte_in f (entry_part (4 * n + k))
  unfolding entry_at
  entry_is n k i l m e =
      let q = nodes_are in
      let x : i - entries_at f.sizes ≡ 4 * n + k = omega arith in
      holds i (entry_part (i - entries_at f.sizes)) (omega arith) (at_entry f.sizes i (omega arith) (omega arith))
      ∙ rw x

  parent_is : (n : ℕ) → n < f.sizes.nodes → parent_of b n ≡ f.parent n
  unfolding parent_of
  parent_is n l = let q : (4 * n + 0) / 4 ≡ n = omega arith in
      entry_is n 0 (entry_at b n) l (omega arith) (omega arith)
      ∙ ap (byte_in f) (sym (entry_parent (4 * n + 0) (omega arith))) ∙ ap f.parent q

  kind_is : (n : ℕ) → n < f.sizes.nodes → kind_of b n ≡ f.kind n
  unfolding kind_of
  kind_is n l = let q : (4 * n + 1) / 4 ≡ n = omega arith in
      entry_is n 1 (entry_at b n + 1) l (omega arith) refl
      ∙ ap (byte_in f) (sym (entry_kind (4 * n + 1) (omega arith))) ∙ ap f.kind q

  minutes_is : (n : ℕ) → n < f.sizes.nodes → minutes_of b n ≡ f.minutes n
  unfolding minutes_of
  minutes_is n l =
      let x : (4 * n + 2) / 4 ≡ n = omega arith in
      let y : (4 * n + 3) / 4 ≡ n = omega arith in
      two (entry_at b n + 2) (f.minutes n)
      (entry_is n 2 (entry_at b n + 2) l (omega arith) refl
      ∙ ap (byte_in f) (sym (entry_low (4 * n + 2) (omega arith))) ∙ ap (λ (m : ℕ). f.minutes m % 256) x)
      (entry_is n 3 (entry_at b n + 2 + 1) l (omega arith) (omega arith)
      ∙ ap (byte_in f) (sym (entry_high (4 * n + 3) (omega arith))) ∙ ap (λ (m : ℕ). f.minutes m / 256) y)

  task_is : (i : ℕ) → i < f.sizes.conditions → cond_node b i ≡ f.task i
  unfolding cond_node
  task_is i l =
      let q = nodes_are in
      let k = 16 + 8 * node_count b + i in
      let e : k - tasks_at f.sizes ≡ i = omega arith in
      holds k (Task (k - tasks_at f.sizes)) (omega arith) (at_task f.sizes k (omega arith) (omega arith))
      ∙ ap f.task e

  -- byte k of the values
  value_byte : (k i : ℕ) → k < 2 * f.sizes.conditions → i ≡ values_at f.sizes + k
      → get_or b i 0 ≡ byte_in f (value_part k)
  value_byte k i l e =
      let x : i - values_at f.sizes ≡ k = omega arith in
      holds i (value_part (i - values_at f.sizes)) (omega arith) (at_value f.sizes i (omega arith) (omega arith))
      ∙ rw x

  value_is : (i : ℕ) → i < f.sizes.conditions → cond_value b i ≡ f.value i
  unfolding cond_value
  value_is i l =
      let q = nodes_are in
      let c = conditions_are in
      let k = 16 + 8 * node_count b + cond_count b + 2 * i in
      let x : (2 * i) / 2 ≡ i = omega arith in
      let y : (2 * i + 1) / 2 ≡ i = omega arith in
      two k (f.value i)
      (value_byte (2 * i) k (omega arith) (omega arith) ∙ ap (byte_in f) (sym (value_low (2 * i) (omega arith)))
      ∙ ap (λ (m : ℕ). f.value m % 256) x)
      (value_byte (2 * i + 1) (k + 1) (omega arith) (omega arith)
      ∙ ap (byte_in f) (sym (value_high (2 * i + 1) (omega arith))) ∙ ap (λ (m : ℕ). f.value m / 256) y)

  earlier_is : (j : ℕ) → j < f.sizes.orders → earlier_of b j ≡ f.earlier j
  unfolding earlier_of
  earlier_is j l =
      let q = nodes_are in
      let c = conditions_are in
      let k = 16 + 8 * node_count b + 3 * cond_count b + j in
      let e : k - earlier_at f.sizes ≡ j = omega arith in
      holds k (Earlier (k - earlier_at f.sizes)) (omega arith) (at_earlier f.sizes k (omega arith) (omega arith))
      ∙ ap f.earlier e

  later_is : (j : ℕ) → j < f.sizes.orders → later_of b j ≡ f.later j
  unfolding later_of
  later_is j l =
      let q = nodes_are in
      let c = conditions_are in
      let o = orders_are in
      let k = 16 + 8 * node_count b + 3 * cond_count b + order_count b + j in
      let e : k - later_at f.sizes ≡ j = omega arith in
      holds k (Later (k - later_at f.sizes)) (omega arith) (at_later f.sizes k (omega arith)) ∙ ap f.later e

  pub laid_of : Laid b f
  laid_of = record {
    long = long;
    nodes = nodes_are;
    conditions = conditions_are;
    orders = orders_are;
    flags = flags_are;
    start = start_is;
    name = name_is;
    parent = parent_is;
    kind = kind_is;
    minutes = minutes_is;
    task = task_is;
    value = value_is;
    earlier = earlier_is;
    later = later_is;
  }

-- lent memory with the bytes written from its first on: as far as they go, it has the fields
pub laid_in : (f : Fields) (out : List ℕ) → plan_length f.sizes ≤ length out
    → Laid (take (plan_length f.sizes) (overlay (byte_at f) (plan_length f.sizes) out)) f
laid_in f out l =
    let n = plan_length f.sizes in
    laid_of f (take n (overlay (byte_at f) n out))
    (length-take n (overlay (byte_at f) n out) ∙ omega (arith, length_overlay (byte_at f) out n))
    (λ i h. get_or-take n (overlay (byte_at f) n out) i 0 h ∙ at_overlay (byte_at f) out n i l h)

-- and so the bytes by themselves
pub laid_bytes_lem : (f : Fields) → Laid (laid_bytes f) f
laid_bytes_lem f = let n = plan_length f.sizes in
    laid_in f (replicate n 0) (omega (arith, length-replicate {A = ℕ} n 0))
