-- The table of relation codes without orders, and what one order adds to it. Definitions only.
use Rattle.std.specs.Prelude.{◌≡◌, ◌≢◌, ◌⊎◌, List, ℕ, ◌<◌, length}
use Rattle.tables.specs.Represents.{before_code, after_code, code}
use Rattle.tables.specs.Sizes.{NODES, PAIRS}

-- no node is put before another
pub record Unlinked (order : List ℕ) : Type 0 where
  pub long : length order ≡ PAIRS
  pub free : (x y : ℕ) → x < NODES → y < NODES → (code order x y ≢ before_code) × (code order x y ≢ after_code)

-- the nodes of `From` are put before c, and nothing else is changed
pub record Linked (old new : List ℕ) (c : ℕ) (From : ℕ → Type 0) : Type 0 where
  pub long : length new ≡ PAIRS
  pub ahead : (a : ℕ) → a < NODES → From a → code new a c ≡ 1
  pub back : (a : ℕ) → a < NODES → From a → code new c a ≡ 2
  pub kept : (x y : ℕ) → x < NODES → y < NODES → (y ≡ c → From x → ⊥) → (x ≡ c → From y → ⊥)
      → code new x y ≡ code old x y

-- c is a, or a lower number that the table has before a
abbrev pub Leading : List ℕ → ℕ → ℕ → Type 0
Leading order a c = (c ≡ a) ⊎ ((c < a) × (code order c a ≡ 1))
