-- What `assess` answers for two plans and for the plan merged from them (112), and that this is one plan. Definitions
-- only.
use Rattle.std.specs.Prelude.{◌≡◌, ◌↔◌, List, [], ℕ, take}
use Rattle.std.proofs.Common.{inr}
use Rattle.base.specs.Bytes.{Bytes}
use Rattle.plan_check.specs.Meaning.{plan_of}
use Rattle.runs.specs.Verdict.{CLEAR}
use Rattle.verdict.specs.Verdict.{Answer, said, Assessed}
use Rattle.merges.specs.Collisions.{NoCollision}
use Rattle.plan_merge.specs.Sentences.{IsMerged}
use Rattle.plan_merge.specs.Calls.{Merges}

-- "The pooled book is CLEAR exactly when both are and no literal needed or held in one is held or left opposite in the
-- other, #104's opposite leavings included": x, y and z are the answers for the plans b and c and for the first n bytes
-- that a call leaves that merges them
abbrev pub MergedClear : Type 0
MergedClear = (b c out out' : List ℕ) (n : ℕ) → Merges b c out (inr n) out' → (x y z : Answer) → Assessed b [] x
    → Assessed c [] y → Assessed (take n out') [] z
    → (said z ≡ inr CLEAR) ↔ ((said x ≡ inr CLEAR) × (said y ≡ inr CLEAR) × NoCollision (plan_of b) (plan_of c))

-- 02's words fit no other bytes
abbrev pub OneMerged : Type 0
OneMerged = (b c m n : List ℕ) → Bytes m → Bytes n → IsMerged b c m → IsMerged b c n → m ≡ n
