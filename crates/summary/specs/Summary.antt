-- The summary call (01: sheet) with a list of blocked nodes: what it returns, every byte that it leaves, and what each
-- byte of a mark tells. Definitions only.
use Rattle.std.specs.Prelude.{◌≡◌, ◌≢◌, ◌⊎◌, Bool, cond, not, List, ℕ, ◌+◌, ◌*◌, ◌≤◌, ◌<◌, length, get_or, ltb}
use Rattle.base.specs.Answers.{first}
use Rattle.plan_format.specs.Format.{node_count, flag_count}
use Rattle.plan_blocked.specs.Blocked.{refusal_under}
use Rattle.runs.specs.Searches.{listed}
use Rattle.runs.specs.Plan.{sign_number}
use Rattle.plan_check.specs.Meaning.{plan_of}
use Rattle.runs.specs.Summary.{Mark, byte_of}
use Rattle.runs.specs.Blocked.{MarkedUnder}
use Rattle.summary.specs.Model.{summary_left}

-- 1 to 14, 28 and 29; 15: under 16 V bytes; 17: no node
unfoldable pub summary_refusal : List ℕ → List ℕ → ℕ → List ℕ → ℕ
summary_refusal b xs n out = first (refusal_under b xs)
    (cond (ltb (length out) (16 * flag_count b)) 15 (cond (not (ltb n (node_count b))) 17 0))

-- the byte is 1 and A holds, or it is 0 and A does not hold
abbrev pub Tells : ℕ → Type 0 → Type 0
Tells x A = ((x ≡ 1) × A) ⊎ ((x ≡ 0) × (¬ A))

pub record Summarised (b xs : List ℕ) (n : ℕ) (out : List ℕ) (r : ℕ) (out' : List ℕ) : Type 0 where
  pub returns : r ≡ summary_refusal b xs n out
  pub leaves : out' ≡ summary_left b xs n r out
  -- refused, every byte is as it was
  pub unchanged : r ≢ 0 → out' ≡ out
  -- accepted, byte m of entry 2 f + sign tells the mark m of the literal; there are 2 V entries, and nothing is written
  -- past them
  pub marks : r ≡ 0 → (f : ℕ) → f < flag_count b → (v : Bool) (m : Mark)
      → Tells (get_or out' (8 * (2 * f + sign_number v) + byte_of m) 0) (MarkedUnder (plan_of b) (listed xs) n f v m)
  pub as_long : length out' ≡ length out
  pub later : (i : ℕ) → 16 * flag_count b ≤ i → get_or out' i 0 ≡ get_or out i 0
