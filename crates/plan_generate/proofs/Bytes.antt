-- The fields of a generated plan, as the code works them out. Assumes nothing.
use mathlib.Core.Path.{◌≡◌, refl, ap, ◌∙◌}
use mathlib.Core.Logic.{by_cases}
use mathlib.Core.Bool.{Bool, true, false, cond}
use mathlib.Core.List.{List}
use Prim.Native.Nat.{ℕ, zero, suc, ◌+◌, ◌-◌, ◌*◌, ◌/◌, ◌%◌, ◌<◌, ◌≤◌}
use native.Mathlib.Nat.{mod-lt}
use native.Mathlib.Decide.{ℕ_discrete}
use native.Mathlib.Omega.{arith}
use lib.Dec.{eqb, leb}
use lib.ListN.{get_or}
use borrow.Author.Tests.{eq-eqb, ne_eqb, le-leb, lt-leb}
use Rattle.base.specs.Answers.{overlay}
use Rattle.base.proofs.Count.{count_le}
use Rattle.plan_layout.specs.declared.Sizes.{Sizes}
use Rattle.plan_layout.specs.Layout.{Limited, size_byte, plan_length, part_at}
use Rattle.plan_layout.specs.Fields.{byte_in, byte_at}
use Rattle.plan_layout.proofs.Names.{four}
use Rattle.plan_draws.specs.declared.Recipe.{Recipe}
use Rattle.plan_draws.specs.Drawn.{Allowed}
use Rattle.plan_draws.specs.Inner.{Drew, OrdersFound}
use Rattle.plan_draws.specs.Model.{draw, task_draw, minutes_drawn, flag_drawn, pre_drawn, post_drawn, comes_before}
use Rattle.plan_draws.specs.Model.{order_number, ordered_group, minutes_in, value_in}
use Rattle.plan_draws.proofs.Picked.{Picked, picked}
use Rattle.plan_draws.proofs.Fields.{value_pre, value_post}
use Rattle.plan_generate.specs.Sentences.{root_name, numbered_name}
use Rattle.plan_generate.specs.Model.{root_char, number_char, name_in, parent_in, sizes_in, generated}
use Rattle.plan_generate.specs.Inner.{Prepared}

-- ---- names
module _ (g k : ℕ) where
  pub name_root : k / 4 ≡ 0 → get_or root_name (k % 4) 0 ≡ name_in g k
  unfolding name_in root_char
  name_root e = rw (eq-eqb (k / 4) 0 e) (at (k % 4) (omega arith))
    where
      at : (c : ℕ) → c < 4 → get_or root_name c 0 ≡ cond (eqb c 0) 83 (cond (eqb c 1) 79 (cond (eqb c 2) 65 75))
      at zero l = refl
      at (suc zero) l = refl
      at (suc (suc zero)) l = refl
      at (suc (suc (suc zero))) l = refl
      at (suc (suc (suc (suc c)))) l = absurd (omega arith)

  pub name_group : 0 < k / 4 → k / 4 ≤ g → k % 4 ≡ 0 → 71 ≡ name_in g k
  unfolding name_in number_char
  name_group z l e = rw (ne_eqb (k / 4) 0 (λ x. omega arith), eq-eqb (k % 4) 0 e, le-leb (k / 4) g l)

  pub name_task : g < k / 4 → k % 4 ≡ 0 → 84 ≡ name_in g k
  unfolding name_in number_char
  name_task l e = rw (ne_eqb (k / 4) 0 (λ x. omega arith), eq-eqb (k % 4) 0 e, lt-leb (k / 4) g l)

  pub name_hundreds : 0 < k / 4 → k % 4 ≡ 1 → 48 + k / 4 / 100 ≡ name_in g k
  unfolding name_in number_char
  name_hundreds z e = rw (ne_eqb (k / 4) 0 (λ x. omega arith), ne_eqb (k % 4) 0 (λ x. omega arith), eq-eqb (k % 4) 1 e)

  pub name_tens : 0 < k / 4 → k % 4 ≡ 2 → 48 + k / 4 / 10 % 10 ≡ name_in g k
  unfolding name_in number_char
  name_tens z e = rw (
    ne_eqb (k / 4) 0 (λ x. omega arith),
    ne_eqb (k % 4) 0 (λ x. omega arith),
    ne_eqb (k % 4) 1 (λ x. omega arith),
    eq-eqb (k % 4) 2 e,
  )

  pub name_ones : 0 < k / 4 → k % 4 ≡ 3 → 48 + k / 4 % 10 ≡ name_in g k
  unfolding name_in number_char
  name_ones z e = rw (
    ne_eqb (k / 4) 0 (λ x. omega arith),
    ne_eqb (k % 4) 0 (λ x. omega arith),
    ne_eqb (k % 4) 1 (λ x. omega arith),
    ne_eqb (k % 4) 2 (λ x. omega arith),
  )

-- ---- the four characters of node n
pub root_chars : (g : ℕ) → root_name ≡ four (name_in g) 0
unfolding name_in root_char
root_chars g = refl

pub number_chars : (g n c : ℕ) → 0 < n → c ≡ name_in g (4 * n) → numbered_name c n ≡ four (name_in g) n
number_chars g n c z e =
    let x : (4 * n + 1) / 4 ≡ n = omega arith in
    let y : (4 * n + 2) / 4 ≡ n = omega arith in
    let w : (4 * n + 3) / 4 ≡ n = omega arith in
    rw (
      e,
      ← name_hundreds g (4 * n + 1) (omega arith) (omega arith),
      ← name_tens g (4 * n + 2) (omega arith) (omega arith),
      ← name_ones g (4 * n + 3) (omega arith) (omega arith),
      x,
      y,
      w,
    )

-- ---- parents
module _ (g n : ℕ) where
  pub parent_root : n ≡ 0 → 255 ≡ parent_in g n
  unfolding parent_in
  parent_root e = rw (eq-eqb n 0 e)

  pub parent_group : 0 < n → n ≤ g → 0 ≡ parent_in g n
  unfolding parent_in
  parent_group z l = rw (ne_eqb n 0 (λ e. omega arith), le-leb n g l)

  pub parent_task : g < n → 1 + (n - 1 - g) % g ≡ parent_in g n
  unfolding parent_in
  parent_task l = rw (ne_eqb n 0 (λ e. omega arith), lt-leb n g l)

  pub turn : 0 < g → (n - 1 - g) % g < g
  turn z = mod-lt (n - 1 - g) z

-- ---- values and orders
pub draw_small : (s n k : ℕ) → 0 < k → draw s n k < k
unfolding draw
draw_small s n k l = mod-lt _ l

module _ (r : Recipe) where
  pub flag_small : (j : ℕ) → flag_drawn r j < 8
  unfolding flag_drawn
  flag_small j = draw_small _ _ 8 (omega arith)

  pub pre_small : (j : ℕ) → pre_drawn r j < 2
  unfolding pre_drawn
  pre_small j = draw_small _ _ 2 (omega arith)

  pub post_small : (j : ℕ) → post_drawn r j < 2
  unfolding post_drawn
  post_small j = draw_small _ _ 2 (omega arith)

  -- the high byte of a value
  pub value_high : (i : ℕ) → i % 2 ≡ value_in r i / 256
  value_high i =
      let x = flag_small (i / 2) in
      by_cases (ℕ_discrete (i % 2) 0)
      (λ (e : i % 2 ≡ 0). omega (arith, pre_small (i / 2), value_pre r i e))
      (λ e. let z : i % 2 ≡ 1 = omega arith in omega (arith, post_small (i / 2), value_post r i z))

  pub minutes_small : (n : ℕ) → minutes_in r n < 60
  unfolding minutes_in minutes_drawn
  minutes_small n = at (leb n r.groups)
    where
      at : (x : Bool) → cond x 0 (draw r.seed (task_draw r (n - 1 - r.groups)) 60) < 60
      at true = omega arith
      at false = draw_small _ _ 60 (omega arith)

  -- the group of an order, counted from 0: it comes before the next
  pub order_at_lem : (m : ℕ) → m < order_number r → Picked (comes_before r) (r.groups - 1) m (ordered_group r m)
  unfolding order_number ordered_group
  order_at_lem m l = picked (comes_before r) (r.groups - 1) m l

  pub few_orders : order_number r ≤ r.groups - 1
  unfolding order_number
  few_orders = count_le (r.groups - 1) (comes_before r)

  pub sizes_limited : Allowed r → Limited (sizes_in r)
  sizes_limited ok = record {
    nodes = omega (arith, ok.few_groups, ok.few_tasks);
    conditions = omega (arith, ok.few_tasks);
    orders = omega (arith, few_orders, ok.few_groups);
    flags = omega arith;
  }

-- the sizes, with as many orders as were found
module _ (r : Recipe) {found : ℕ} {ordered : List ℕ} (f : OrdersFound r found ordered) where
  abbrev sizes_with : Sizes
  sizes_with = record { nodes = 1 + r.groups + r.tasks; conditions = 2 * r.tasks; orders = found; flags = 8 }

  pub sizes_are : sizes_with ≡ sizes_in r
  sizes_are = rw f.number

  pub sizes_fit : Allowed r → Limited sizes_with
  sizes_fit ok = rw f.number (sizes_limited r ok)

  pub length_is : {n : ℕ} → n ≡ plan_length sizes_with → n ≡ plan_length (sizes_in r)
  length_is e = e ∙ ap plan_length sizes_are

  pub prepared : {draws : List ℕ} → Allowed r → Drew r.seed draws → Prepared r draws ordered sizes_with
  prepared ok d = record { allowed = ok; drew = d; found = f; sized = sizes_are }

module _ {r : Recipe} {draws ordered : List ℕ} {sizes : Sizes} (p : Prepared r draws ordered sizes) where
  pub limited : Limited sizes
  limited = rw p.sized (sizes_limited r p.allowed)

  pub size_is : (i : ℕ) → size_byte sizes i ≡ size_byte (sizes_in r) i
  size_is i = ap (λ (s : Sizes). size_byte s i) p.sized

  pub node_in : {n : ℕ} → n < sizes.nodes → n < 1 + r.groups + r.tasks
  node_in l = rw p.sized at l

  pub condition_in : {i : ℕ} → i < sizes.conditions → i < 2 * r.tasks
  condition_in l = rw p.sized at l

  -- what the table of orders has
  pub order_is_lem : (j : ℕ) → j < sizes.orders → get_or ordered j 0 ≡ ordered_group r j
  order_is_lem j l = p.found.at j l

  pub order_small : (j : ℕ) → j < sizes.orders → (j < 60) × (get_or ordered j 0 < 60)
  order_small j l =
      let ok = p.allowed in
      let n = p.found.number in
      let x = order_at_lem r j (omega arith) in
      (omega (arith, few_orders r, ok.few_groups), omega (arith, order_is_lem j l, x.below, ok.few_groups))

  -- each byte by the part that it holds
  pub overlaid : (n : ℕ) (out : List ℕ)
      → overlay (λ i. byte_in (generated r) (part_at sizes i)) n out ≡ overlay (byte_at (generated r)) n out
  unfolding byte_at generated
  overlaid n out = rw p.sized
