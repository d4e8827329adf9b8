-- The verdict as a function that computes. Definitions only.
use Rattle.std.specs.Prelude.{◌≡◌, ◌⊎◌, Bool, true, false, not, ℕ}
use Rattle.runs.specs.Tests.{both, same_b}
use Rattle.runs.specs.Searches.{either, any_below}
use Rattle.runs.specs.Plan.{Plan}
use Rattle.runs.specs.Summary.{Mark, Marked, may_pre, must_pre, may_clobber, must_clobber}
use Rattle.runs.specs.Verdict.{Verdict, CLEAR, DOOMED, OPEN}
use Rattle.runs.specs.Model.Marks.{marked_b}

module _ (p : Plan) (F : ℕ → Bool) where
  -- at the root the literal has the mark m, or is false at the start and has the mark k
  abbrev pub Fails : Mark → Mark → ℕ → Bool → Type 0
  Fails m k f v = Marked p 0 f v m ⊎ ((F f ≡ not v) × Marked p 0 f v k)

  -- as a test
  unfoldable pub fails_b : Mark → Mark → ℕ → Bool → Bool
  fails_b m k f v = either (marked_b p 0 f v m) (λ u. both (same_b (F f) (not v)) (λ u. marked_b p 0 f v k))

  -- some literal on the plan's flags
  unfoldable pub some_literal_b : (ℕ → Bool → Bool) → Bool
  some_literal_b g = any_below p.conditions.flags (λ f. either (g f true) (λ u. g f false))

  unfoldable pub may_fail_b : Bool
  may_fail_b = some_literal_b (fails_b may_clobber may_pre)

  unfoldable pub must_fail_b : Unit {0} → Bool
  must_fail_b u = some_literal_b (fails_b must_clobber must_pre)

unfoldable pub judge : Bool → (Unit {0} → Bool) → Verdict
judge false g = CLEAR
judge true g = elim (g tt) [ true ↦ DOOMED | false ↦ OPEN ]

unfoldable pub verdict : Plan → (ℕ → Bool) → Verdict
verdict p F = judge (may_fail_b p F) (must_fail_b p F)
