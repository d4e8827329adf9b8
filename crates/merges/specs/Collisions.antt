-- Two plans merged under a new all-of root (02: two books pooled, 112): what has to hold of them for the merged plan to
-- be CLEAR. Definitions only.
use Rattle.std.specs.Prelude.{Bool, not, ℕ}
use Rattle.runs.specs.Plan.{pre, inc, post, Plan}
use Rattle.runs.specs.Pairs.{TaskWith}
use Rattle.runs.specs.Verdict.{Clear}

-- q and r collide on a literal: "needed or held in one is held or left opposite in the other"; or, "#104's opposite
-- leavings included", left in one and left opposite in the other. Needed means: by any task, exposed or not. All tasks
-- of a plan are under its root, 0.
pub data Collides (q r : Plan) (f : ℕ) (v : Bool) : Type 0 where
  needed_or_held : TaskWith q pre inc f v 0 → TaskWith r inc post f (not v) 0 → Collides q r f v
  left_opposite : TaskWith q post post f v 0 → TaskWith r post post f (not v) 0 → Collides q r f v

-- "no literal .. in one .. in the other": either plan may be the one
pub record NoCollision (q r : Plan) : Type 0 where
  pub this_way : (f : ℕ) (v : Bool) → ¬ Collides q r f v
  pub that_way : (f : ℕ) (v : Bool) → ¬ Collides r q f v

-- "CLEAR exactly when both are and no literal ..": G and H are the flags of q and of r at the start
pub record BothClear (q r : Plan) (G H : ℕ → Bool) : Type 0 where
  pub first_clear : Clear q G
  pub second_clear : Clear r H
  pub none_collide : NoCollision q r
