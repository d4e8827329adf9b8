-- What the tables of lengths and waits hold while the groups are worked out, and what one group adds. Definitions only.
use Rattle.std.specs.Prelude.{◌≡◌, Bool, true, List, ℕ, ◌≤◌, ◌<◌, length, get_or}
use Rattle.plan_format.specs.Format.{node_count, order_count, kind_of, earlier_of, later_of}
use Rattle.plan_rules.specs.Rules.{refusal, is_child}
use Rattle.table_children.specs.Children.{TreeOf}
use Rattle.wait_lengths.specs.Waits.{length_of, wait_within}
use Rattle.tables.specs.Sizes.{NODES}

-- the orders below r have an earlier node below c, those from r on have not
pub record FirstOrder (b : List ℕ) (c r : ℕ) : Type 0 where
  pub inside : r ≤ order_count b
  pub below : (j : ℕ) → j < r → earlier_of b j < c
  pub from : (j : ℕ) → r ≤ j → j < order_count b → c ≤ earlier_of b j

-- the waits of the later nodes of the orders of c are raised to v, where they are below it; nothing else changes
pub record Raised (b waits waits' : List ℕ) (c v : ℕ) : Type 0 where
  pub long : length waits' ≡ NODES
  pub grown : (m : ℕ) → get_or waits m 0 ≤ get_or waits' m 0
  pub reached : (j : ℕ) → j < order_count b → earlier_of b j ≡ c → v ≤ get_or waits' (later_of b j) 0
  pub only : (m u : ℕ) → get_or waits m 0 ≤ u
      → ((j : ℕ) → j < order_count b → earlier_of b j ≡ c → later_of b j ≡ m → v ≤ u) → get_or waits' m 0 ≤ u

-- g is a group of an accepted plan, of a kind that passes the test, and the table of children is the plan's
pub record GroupOf (b from kids : List ℕ) (test : Bool) (g : ℕ) : Type 0 where
  pub accepted : refusal b ≡ 0
  pub tree : TreeOf b from kids
  pub node : g < node_count b
  pub kind : test ≡ true

-- the tables before and while the groups are worked out: the lengths of the tasks stand, and no wait is beyond the one
-- within its group
pub record Tables (b lengths waits : List ℕ) : Type 0 where
  pub lengths_long : length lengths ≡ NODES
  pub waits_long : length waits ≡ NODES
  pub tasks : (t : ℕ) → t < node_count b → kind_of b t ≡ 0 → get_or lengths t 0 ≡ length_of b t
  pub within : (m : ℕ) → m < node_count b → get_or waits m 0 ≤ wait_within b m

-- the lengths of the children of n stand
pub record ChildLengths (b lengths : List ℕ) (n : ℕ) : Type 0 where
  pub is : (c : ℕ) → is_child b n c ≡ true → get_or lengths c 0 ≡ length_of b c

-- the waits of the children of an all-of group n are worked out, and r is its length
pub record Spread (b lengths waits waits' : List ℕ) (n r : ℕ) : Type 0 where
  pub tables : Tables b lengths waits'
  pub grown : (m : ℕ) → get_or waits m 0 ≤ get_or waits' m 0
  pub children : (c : ℕ) → is_child b n c ≡ true → get_or waits' c 0 ≡ wait_within b c
  pub greatest : r ≡ length_of b n
