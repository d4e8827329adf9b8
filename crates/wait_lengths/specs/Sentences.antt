-- 01's sentences on lengths and waits ('Longest waits'), said of any three functions of a plan's nodes. Definitions
-- only.
use Rattle.std.specs.Prelude.{ℕ, ◌+◌, ◌<◌, ◌≤◌, ◌≡◌, true, List}
use Rattle.plan_format.specs.Format.{order_count, minutes_of, earlier_of, later_of, is_kind, is_choice}
use Rattle.plan_rules.specs.Rules.{is_child}

-- v is the greatest f i over the numbers i that P holds of: none is above it, and one is it
pub record Greatest (P : ℕ → Type 0) (f : ℕ → ℕ) (v : ℕ) : Type 0 where
  pub bound : (i : ℕ) → P i → f i ≤ v
  pub attained : (i : ℕ) × P i × (f i ≡ v)

-- c is a child of g
abbrev pub ChildIn : List ℕ → ℕ → ℕ → Type 0
ChildIn b g c = is_child b g c ≡ true

-- order j has c as its later node
abbrev pub OrderInto : List ℕ → ℕ → ℕ → Type 0
OrderInto b c j = (j < order_count b) × (later_of b j ≡ c)

pub record Times (b : List ℕ) (len wait longest : ℕ → ℕ) : Type 0 where
  -- length of a task: its minutes
  pub task : (n : ℕ) → is_kind b n 0 ≡ true → len n ≡ minutes_of b n
  -- any-of, and optional (02): its longest child
  pub choice : (g : ℕ) → is_choice b g ≡ true → Greatest (ChildIn b g) len (len g)
  -- all_of: the greatest wait within it plus length over its children
  pub all_of : (g : ℕ) → is_kind b g 1 ≡ true → Greatest (ChildIn b g) (λ c. wait c + len c) (len g)
  -- a child's wait within an all_of group is 0, or the greatest wait plus length among its orders' earlier nodes
  pub unordered : (g c : ℕ) → is_kind b g 1 ≡ true → ChildIn b g c → ((j : ℕ) → OrderInto b c j → ⊥) → wait c ≡ 0
  pub ordered : (g c j : ℕ) → is_kind b g 1 ≡ true → ChildIn b g c → OrderInto b c j
      → Greatest (OrderInto b c) (λ i. wait (earlier_of b i) + len (earlier_of b i)) (wait c)
  -- in an any-of or optional group 0
  pub in_choice : (g c : ℕ) → is_choice b g ≡ true → ChildIn b g c → wait c ≡ 0
  -- the root's own is 0
  pub root : wait 0 ≡ 0
  -- longest wait: the sum of these from the root down
  pub longest_root : longest 0 ≡ wait 0
  pub longest_child : (g c : ℕ) → ChildIn b g c → longest c ≡ longest g + wait c
