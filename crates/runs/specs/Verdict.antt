-- The verdict on a plan whose flags are F at the start: 01's answer for a book. Definitions only.
use Rattle.std.specs.Prelude.{◌≡◌, Bool, not, ℕ}
use Rattle.runs.specs.Plan.{Plan}
use Rattle.runs.specs.Summary.{May, Must, ExternalPre, MayClobber, MustClobber}

pub data Verdict : Type 0 where
  CLEAR DOOMED OPEN : Verdict
  deriving Discrete as Verdict-discrete

module _ (p : Plan) (F : ℕ → Bool) where
  -- at the root no literal may clash, and no literal false at the start may be needed
  pub record Clear : Type 0 where
    pub no_clobber : (f : ℕ) (v : Bool) → ¬ MayClobber p f v 0
    pub no_pre : (f : ℕ) (v : Bool) → F f ≡ not v → ¬ May p 0 (ExternalPre p f v)

  -- at the root a literal has doom, or is false at the start and must be needed
  pub data Doomed : Type 0 where
    by_clobber : (f : ℕ) (v : Bool) → MustClobber p f v 0 → Doomed
    by_start : (f : ℕ) (v : Bool) → F f ≡ not v → Must p 0 (ExternalPre p f v) → Doomed

  abbrev pub Judged : Verdict → Type 0
  Judged CLEAR = Clear
  Judged DOOMED = Doomed
  Judged OPEN = (¬ Clear) × (¬ Doomed)
