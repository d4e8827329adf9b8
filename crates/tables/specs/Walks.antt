-- What working out a node comes to; R and R' say what it means that a node is right before and after. Definitions only.
use Rattle.std.specs.Prelude.{List, ℕ}
use Rattle.runs.specs.Plan.{Plan, Under}
use Rattle.tables.specs.Segments.{Every}

-- what was right is right, and so is every node under n
pub record RightUnder (p : Plan) (R R' : ℕ → Type 0) (n : ℕ) : Type 0 where
  pub kept : (m : ℕ) → R m → R' m
  pub right : (m : ℕ) → Under p n m → R' m

-- what was right is right, and so is every node under the children at the positions from low to i
pub record RightTo (p : Plan) (kids : List ℕ) (low : ℕ) (R R' : ℕ → Type 0) (i : ℕ) : Type 0 where
  pub kept : (m : ℕ) → R m → R' m
  pub right : Every kids low i (λ c. (m : ℕ) → Under p c m → R' m)
