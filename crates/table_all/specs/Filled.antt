-- The tables of an accepted plan, before and after they are filled. Definitions only.
use Rattle.std.specs.Prelude.{◌≡◌, Bool, List, ℕ, ◌+◌, ◌*◌, ◌/◌, ◌%◌, ◌^◌, ◌<◌, ◌≤◌, get_or, set}
use Rattle.std.specs.Int.Bits.{bit_or}
use Rattle.base.specs.Zeros.{Zeros}
use Rattle.plan_format.specs.Format.{node_count, cond_count}
use Rattle.plan_check.specs.Meaning.{plan_of}
use Rattle.tables.specs.Represents.{Represents, RepresentsKinds, RepresentsOrder, RepresentsConditions}
use Rattle.runs.specs.Branches.{Blocks}
use Rattle.runs.specs.Model.Blocked.{without}
use Rattle.plan_blocked.specs.Inner.{Standing}
use Rattle.plan_reader.specs.Items.{item_count}
use Rattle.table_orders.specs.Links.{Unlinked, Linked, Leading}
use Rattle.table_children.specs.Children.{TreeIn, plan_with}
use Rattle.plan_reader.specs.declared.items.Item.{Item}
use Rattle.plan_reader.specs.declared.items.Item.TheVariants as item
use Rattle.tables.specs.Sizes.{NODES, STARTS, PAIRS, CONDITIONS}

-- tables with nothing in them
pub record Fresh (kind from kids order conds : List ℕ) : Type 0 where
  pub no_kinds : Zeros NODES kind
  pub no_starts : Zeros STARTS from
  pub no_kids : Zeros NODES kids
  pub no_order : Zeros PAIRS order
  pub no_conditions : Zeros CONDITIONS conds

-- tables of the plan that the bytes b mean, without the blocked nodes: of any blocked nodes S, if a table marks the
-- nodes that stand
pub record TablesOf (b standing kind from kids order conds : List ℕ) : Type 0 where
  pub children : TreeIn (plan_with b standing) (node_count b) from kids
  pub represents : (S : ℕ → Bool) → Blocks (plan_of b) S → Standing b S standing
      → Represents kind from kids order conds (node_count b) (without (plan_of b) S)

-- the same of any nodes S, with the orders between nodes that stand
pub record AmongOf (b standing kind from kids order conds : List ℕ) : Type 0 where
  pub children : TreeIn (plan_with b standing) (node_count b) from kids
  pub represents : (S : ℕ → Bool) → Standing b S standing
      → Represents kind from kids order conds (node_count b) (without (plan_of b) S)

-- an item that has a place in the tables
unfoldable pub ItemFits : ℕ → Item → Type 0
ItemFits at (item.Node x) = at < NODES
ItemFits at (item.Condition x) = (x.node < NODES) × (x.value ≤ 383)
ItemFits at (item.Order x) = (x.earlier < x.later) × (x.later < NODES)

-- what an item changes in the tables, and that the others stay as they are
unfoldable pub Stored : ℕ → Item → List ℕ → List ℕ → List ℕ → List ℕ → List ℕ → List ℕ → Type 0
Stored at (item.Node x) k k' o o' c c' = (k' ≡ set k at x.kind) × ((o' ≡ o) × (c' ≡ c))
Stored at (item.Condition x) k k' o o' c c' =
    (c' ≡ set c (x.node * 6 + x.value / 64) (bit_or (get_or c (x.node * 6 + x.value / 64) 0) (2 ^ (x.value % 64))))
    × ((k' ≡ k) × (o' ≡ o))
Stored at (item.Order x) k k' o o' c c' = Linked o o' x.later (Leading o x.earlier) × ((k' ≡ k) × (c' ≡ c))

-- the tables with the first n items: nodes, then conditions, then orders
pub record ItemsTo (b : List ℕ) (n : ℕ) (kind order conds : List ℕ) : Type 0 where
  pub kinds : node_count b ≤ n → RepresentsKinds kind (plan_of b)
  pub conditions : node_count b + cond_count b ≤ n → RepresentsConditions conds (plan_of b)
  pub no_orders : n ≤ node_count b + cond_count b → Unlinked order
  pub orders : item_count b ≤ n → RepresentsOrder order (plan_of b)
