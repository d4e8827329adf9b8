-- The pairs of children of an all-of group that must clobber a literal (f, v). Definitions only.
use Rattle.std.specs.Prelude.{◌⊎◌, Bool, not, List, ℕ, T}
use Rattle.base.specs.Bits.{bit}
use Rattle.runs.specs.Plan.{Plan, Child, Before}
use Rattle.runs.specs.Summary.{Must, ExternalPre, ExternalPost}
use Rattle.tables.specs.declared.Segment.{Segment}
use Rattle.marks_row.specs.Musts.{SaysOf}
use Rattle.marks_between.specs.Passing.{Undisturbed, OfGroups, SomePair}

-- rule (b) of 01's mark 7
abbrev pub MustPair : Plan → ℕ → ℕ → Bool → ℕ → ℕ → Type 0
MustPair p n f v c d = Before p d c
    × ((Must p d (ExternalPost p f (not v)) × Must p c (ExternalPre p f v)) × Undisturbed p n f c d)

module _ (kids : List ℕ) (segment : Segment) (order rows : List ℕ) where
  -- the known flags, and those that some pair with c must clobber; that some pair must clobber
  abbrev pub WithChildWord : ℕ → ℕ → ℕ → ℕ → Type 0
  WithChildWord s known c r = OfGroups kids segment order rows
      (λ p n. Child p n c → SaysOf s r (λ f v. T (bit known f) ⊎ ((d : ℕ) × Child p n d × MustPair p n f v c d)))

  abbrev pub MustPairsWord : ℕ → ℕ → ℕ → Type 0
  MustPairsWord s known r = OfGroups kids segment order rows
      (λ p n. SaysOf s r (λ f v. T (bit known f) ⊎ SomePair p n (MustPair p n f v)))
