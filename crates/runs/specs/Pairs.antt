-- 01's rule by pairs for may clobber at an all-of group, which is proved to be exact (`clobber_all` in
-- proofs/Summary/Clobber). Definitions only.
use Rattle.std.specs.Prelude.{◌≡◌, ◌⊎◌, Bool, not, ℕ}
use Rattle.std.proofs.Math.Option.{none, some}
use Rattle.runs.specs.Plan.{task, Place, pre, inc, post, Plan, Child, Under, Before, Unordered}
use Rattle.runs.specs.Execution.{last_asserted}
use Rattle.runs.specs.Summary.{May, ExternalPre, ExternalPost, MayClobber}

module _ (p : Plan) where
  -- some task under c has the literal at one of two places
  pub record TaskWith (i j : Place) (f : ℕ) (v : Bool) (c : ℕ) : Type 0 where
    pub who : ℕ
    pub is_task : p.tree.kind who ≡ task
    pub beneath : Under p c who
    pub has : (p.conditions.sign i who f ≡ some v) ⊎ (p.conditions.sign j who f ≡ some v)

  -- 01's rule by pairs for mark 6 at an all-of group: a child has it; or for unordered c and d, a task under c needs or
  -- holds the literal and one under d holds or leaves the opposite; or d stands before c, d may leave the opposite, c
  -- may need the literal, and each child standing between them has a whole free run that does not touch the flag; or
  -- (02) for unordered c and d, a task under c leaves the literal and one under d the opposite
  pub data ClobberByPairs (f : ℕ) (v : Bool) (n : ℕ) : Type 0 where
    in_child : (c : ℕ) → Child p n c → MayClobber p f v c → ClobberByPairs f v n
    unordered_pair : (c d : ℕ) → Child p n c → Child p n d → Unordered p c d → TaskWith pre inc f v c
        → TaskWith inc post f (not v) d
        → ClobberByPairs f v n
    opposed_pair : (c d : ℕ) → Child p n c → Child p n d → Unordered p c d → TaskWith post post f v c
        → TaskWith post post f (not v) d
        → ClobberByPairs f v n
    passed_on : (c d : ℕ) → Child p n c → Child p n d → Before p d c → May p d (ExternalPost p f (not v))
        → May p c (ExternalPre p f v)
        → ((b : ℕ) → Child p n b → Before p d b → Before p b c → May p b (λ h. last_asserted p h f ≡ none))
        → ClobberByPairs f v n
