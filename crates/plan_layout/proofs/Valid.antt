-- The rules 2 and 4 to 14 of 01 (with 02's kind 3), in words, of a plan's fields. Assumes nothing.
use Prim.Native.Nat.{ℕ, suc, ◌/◌, ◌%◌, ◌^◌, ◌*◌, ◌<◌, ◌≤◌}
use mathlib.Core.Path.{◌≡◌}
use mathlib.Core.Logic.{◌≢◌}
use mathlib.Core.Bool.{true}
use Rattle.plan_codes.specs.Names.{name_allowed}
use Rattle.plan_codes.specs.Values.{flag_of, sign_of, place_of}
use Rattle.plan_rules.proofs.Rising.{Below}
use Rattle.plan_layout.specs.Layout.{Limited}
use Rattle.plan_layout.specs.Fields.{Fields}

pub record Valid (f : Fields) : Type 0 where
  -- 2
  pub some_node : 1 ≤ f.sizes.nodes
  pub some_flag : 1 ≤ f.sizes.flags
  pub limited : Limited f.sizes
  -- 4
  pub starts : (k : ℕ) → k < 64 → f.sizes.flags ≤ k → f.start (k / 8) / 2 ^ (k % 8) % 2 ≡ 0
  -- 5
  pub names : (k : ℕ) → k < 4 * f.sizes.nodes → name_allowed (f.name k) ≡ true
  -- 6
  pub kinds : (i : ℕ) → i < f.sizes.nodes → f.kind i ≤ 3
  pub no_minutes : (i : ℕ) → i < f.sizes.nodes → f.kind i ≢ 0 → f.minutes i ≡ 0
  pub few_minutes : (i : ℕ) → i < f.sizes.nodes → f.minutes i ≤ 10080
  -- 7
  pub root : f.parent 0 ≡ 255
  pub parents : (i : ℕ) → 0 < i → i < f.sizes.nodes → (f.parent i < i) × (f.kind (f.parent i) ≢ 0)
  -- 8
  pub children : (g : ℕ) → g < f.sizes.nodes → f.kind g ≢ 0 → (c : ℕ) × (c < f.sizes.nodes) × (f.parent c ≡ g)
  -- 9
  pub on_task : (i : ℕ) → i < f.sizes.conditions → (f.task i < f.sizes.nodes) × (f.kind (f.task i) ≡ 0)
  pub values : (i : ℕ) → i < f.sizes.conditions → (f.value i ≤ 383) × (flag_of (f.value i) < f.sizes.flags)
  -- 10
  pub rising : (i : ℕ) → suc i < f.sizes.conditions
      → Below (f.task i) (f.value i) (f.task (suc i)) (f.value (suc i))
  -- 11
  pub one_sign : (i j : ℕ) → i < f.sizes.conditions → j < f.sizes.conditions → f.task j ≡ f.task i
      → place_of (f.value j) ≡ place_of (f.value i) → flag_of (f.value j) ≡ flag_of (f.value i)
      → sign_of (f.value j) ≡ sign_of (f.value i)
  -- 12
  pub inc_post : (i : ℕ) → i < f.sizes.conditions → place_of (f.value i) ≡ 1
      → (j : ℕ) × (j < f.sizes.conditions) × (f.task j ≡ f.task i) × (flag_of (f.value j) ≡ flag_of (f.value i))
      × (place_of (f.value j) ≡ 2)
  -- 13
  pub siblings : (j : ℕ) → j < f.sizes.orders
      → (0 < f.earlier j) × (f.earlier j < f.later j) × (f.later j < f.sizes.nodes)
      × (f.parent (f.earlier j) ≡ f.parent (f.later j)) × (f.kind (f.parent (f.earlier j)) ≡ 1)
  -- 14
  pub rising_orders : (j : ℕ) → suc j < f.sizes.orders
      → Below (f.earlier j) (f.later j) (f.earlier (suc j)) (f.later (suc j))
