-- The fields of a plan, and the bytes that 01 lays out from them. Definitions only.
use Rattle.std.specs.Prelude.{ℕ, ◌+◌, ◌*◌, ◌/◌, ◌%◌, ◌<◌, ◌≡◌, List, length, get_or, take, replicate}
use Rattle.base.specs.Answers.{overlay}
use Rattle.plan_format.specs.Format.{node_count, cond_count, order_count, flag_count, name_char, parent_of, kind_of}
use Rattle.plan_format.specs.Format.{minutes_of}
use Rattle.plan_format.specs.Format.{cond_node, cond_value, earlier_of, later_of}
use Rattle.plan_layout.specs.declared.Sizes.{Sizes}
use Rattle.plan_layout.specs.declared.Part.{Part}
use Rattle.plan_layout.specs.declared.Part.TheVariants.{Size, Start, Name, Parent, Kind, MinutesLow, MinutesHigh}
use Rattle.plan_layout.specs.declared.Part.TheVariants.{Task, ValueLow, ValueHigh, Earlier, Later}
use Rattle.plan_layout.specs.Layout.{size_byte, plan_length, part_at}

pub record Fields : Type 0 where
  pub sizes : Sizes
  -- byte k of the start flags; character k of all names
  pub start : ℕ → ℕ
  pub name : ℕ → ℕ
  -- of each node
  pub parent : ℕ → ℕ
  pub kind : ℕ → ℕ
  pub minutes : ℕ → ℕ
  -- of each condition
  pub task : ℕ → ℕ
  pub value : ℕ → ℕ
  -- of each order
  pub earlier : ℕ → ℕ
  pub later : ℕ → ℕ

module _ (f : Fields) where
  -- the byte of a part
  abbrev pub byte_in : Part → ℕ
  byte_in (Size i) = size_byte f.sizes i
  byte_in (Start k) = f.start k
  byte_in (Name k) = f.name k
  byte_in (Parent n) = f.parent n
  byte_in (Kind n) = f.kind n
  byte_in (MinutesLow n) = f.minutes n % 256
  byte_in (MinutesHigh n) = f.minutes n / 256
  byte_in (Task i) = f.task i
  byte_in (ValueLow i) = f.value i % 256
  byte_in (ValueHigh i) = f.value i / 256
  byte_in (Earlier j) = f.earlier j
  byte_in (Later j) = f.later j

  -- byte i of the plan
  unfoldable pub byte_at : ℕ → ℕ
  byte_at i = byte_in (part_at f.sizes i)

-- the bytes of the plan, by themselves
abbrev pub laid_bytes : Fields → List ℕ
laid_bytes f =
    take (plan_length f.sizes) (overlay (byte_at f) (plan_length f.sizes) (replicate (plan_length f.sizes) 0))

-- the bytes b have the fields f, by the functions of a plan's bytes that all rules and meanings rest on
pub record Laid (b : List ℕ) (f : Fields) : Type 0 where
  pub long : length b ≡ plan_length f.sizes
  pub nodes : node_count b ≡ f.sizes.nodes
  pub conditions : cond_count b ≡ f.sizes.conditions
  pub orders : order_count b ≡ f.sizes.orders
  pub flags : flag_count b ≡ f.sizes.flags
  pub start : (k : ℕ) → k < 8 → get_or b (8 + k) 0 ≡ f.start k
  pub name : (k : ℕ) → k < 4 * f.sizes.nodes → name_char b k ≡ f.name k
  pub parent : (n : ℕ) → n < f.sizes.nodes → parent_of b n ≡ f.parent n
  pub kind : (n : ℕ) → n < f.sizes.nodes → kind_of b n ≡ f.kind n
  pub minutes : (n : ℕ) → n < f.sizes.nodes → minutes_of b n ≡ f.minutes n
  pub task : (i : ℕ) → i < f.sizes.conditions → cond_node b i ≡ f.task i
  pub value : (i : ℕ) → i < f.sizes.conditions → cond_value b i ≡ f.value i
  pub earlier : (j : ℕ) → j < f.sizes.orders → earlier_of b j ≡ f.earlier j
  pub later : (j : ℕ) → j < f.sizes.orders → later_of b j ≡ f.later j
