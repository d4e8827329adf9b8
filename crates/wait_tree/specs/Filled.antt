-- What the tables of lengths and waits hold when nodes are worked out. Definitions only.
use Rattle.std.specs.Prelude.{◌≡◌, true, List, ℕ, ◌<◌, length, get_or}
use Rattle.plan_format.specs.Format.{node_count}
use Rattle.plan_rules.specs.Rules.{is_child}
use Rattle.plan_check.specs.Meaning.{plan_of}
use Rattle.tables.specs.declared.Segment.{Segment}
use Rattle.tables.specs.Walks.{RightUnder, RightTo}
use Rattle.wait_lengths.specs.Waits.{length_of, wait_within, longest_wait}
use Rattle.wait_group.specs.Spread.{Tables}
use Rattle.tables.specs.Sizes.{NODES}

-- a node is worked out: its length, and the waits of its children
pub record Done (b lengths waits : List ℕ) (n : ℕ) : Type 0 where
  pub own : get_or lengths n 0 ≡ length_of b n
  pub children : (c : ℕ) → is_child b n c ≡ true → get_or waits c 0 ≡ wait_within b c

-- the children at the positions before i are worked out, with all under them
pub record LengthsTo (b kids : List ℕ) (segment : Segment) (lengths₀ waits₀ lengths waits : List ℕ)
    (i : ℕ) : Type 0 where
  pub tables : Tables b lengths waits
  pub walked : RightTo (plan_of b) kids segment.start (Done b lengths₀ waits₀) (Done b lengths waits) i

-- what was worked out still is, and so is every node under n
pub record LengthsUnder (b lengths waits lengths' waits' : List ℕ) (n : ℕ) : Type 0 where
  pub tables : Tables b lengths' waits'
  pub under : RightUnder (plan_of b) (Done b lengths waits) (Done b lengths' waits') n

-- every node's wait within its group
pub record WaitsWithin (b waits : List ℕ) : Type 0 where
  pub long : length waits ≡ NODES
  pub is : (n : ℕ) → n < node_count b → get_or waits n 0 ≡ wait_within b n

-- all groups are worked out
pub record AllWorked (b lengths waits : List ℕ) : Type 0 where
  pub lengths_long : length lengths ≡ NODES
  pub root : get_or lengths 0 0 ≡ length_of b 0
  pub within : WaitsWithin b waits

-- every node's longest wait
pub record Longest (b waits : List ℕ) : Type 0 where
  pub long : length waits ≡ NODES
  pub is : (n : ℕ) → n < node_count b → get_or waits n 0 ≡ longest_wait b n
