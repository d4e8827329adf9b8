-- The search for a pair of children of an all-of group that may clobber a wanted literal. Definitions only.
use Rattle.std.specs.Prelude.{◌≢◌, Bool, List, ℕ, ◌<◌, T, get_or}
use Rattle.std.specs.Int.Bits.{bit_or}
use Rattle.std.specs.Option.{MatchOption}
use Rattle.std.specs.declared.option.Option.{Option}
use Rattle.base.specs.Bits.{bit}
use Rattle.base.specs.Words.{Says}
use Rattle.runs.specs.Plan.{Plan, Child}
use Rattle.tables.specs.declared.Segment.{Segment}
use Rattle.tables.specs.Segments.{Reached, Every}
use Rattle.marks_between.specs.Passing.{OfGroups, SomePair}
use Rattle.marks_pair.specs.declared.Literals.{Literals}
use Rattle.marks_pair.specs.Pairs.{Pair, sign_word}
use Rattle.marks_may_pairs.specs.declared.Found.{Found}

-- the pair c, d clobbers no wanted literal; no pair of c does
abbrev pub NoClobber : Plan → ℕ → Literals → ℕ → ℕ → Type 0
NoClobber p n wanted c d = (v : Bool) (f : ℕ) → f < 64 → T (bit (sign_word wanted v) f) → ¬ Pair p n f v c d

abbrev pub Unclobbered : Plan → ℕ → Literals → ℕ → Type 0
Unclobbered p n wanted c = (d : ℕ) → Child p n d → NoClobber p n wanted c d

-- The search stands at the child at position i and the partner at position j: no pair that it has passed clobbers a
-- wanted literal. These are the pairs of the children before i, and those of the child at i with a partner before j.
pub record SearchedTo (kids : List ℕ) (segment : Segment) (order rows : List ℕ) (wanted : Literals)
    (i j : ℕ) : Type 0 where
  pub child : Reached segment i
  pub partner : Reached segment j
  pub before : OfGroups kids segment order rows (λ p n. Every kids segment.start i (Unclobbered p n wanted))
  pub here : OfGroups kids segment order rows
      (λ p n. Every kids segment.start j (NoClobber p n wanted (get_or kids i 0)))

-- What a search answers that stops at a pair: wanted literals that the pair clobbers, at least one, and where it
-- stands.
pub record Stopped (kids : List ℕ) (segment : Segment) (order rows : List ℕ) (wanted : Literals)
    (r : Found) : Type 0 where
  pub among : (v : Bool) (f : ℕ) → f < 64 → T (bit (sign_word r.literals v) f) → T (bit (sign_word wanted v) f)
  pub sound : OfGroups kids segment order rows
      (λ p n. (v : Bool) (f : ℕ) → f < 64 → T (bit (sign_word r.literals v) f) → SomePair p n (Pair p n f v))
  pub stands : SearchedTo kids segment order rows wanted r.at.child r.at.partner
  pub some : bit_or r.literals.clear r.literals.set ≢ 0

-- no pair of children clobbers a wanted literal
abbrev pub NoneClobbers : List ℕ → Segment → List ℕ → List ℕ → Literals → Type 0
NoneClobbers kids segment order rows wanted =
    OfGroups kids segment order rows (λ p n. Every kids segment.start segment.end (Unclobbered p n wanted))

-- What a search answers: where it stopped, or that it has passed all pairs.
abbrev pub Search : List ℕ → Segment → List ℕ → List ℕ → Literals → Option Found → Type 0
Search kids segment order rows wanted r =
    MatchOption r (NoneClobbers kids segment order rows wanted) (Stopped kids segment order rows wanted)

-- the wanted literals that some pair clobbers
pub record AllPairs (kids : List ℕ) (segment : Segment) (order rows : List ℕ) (wanted r : Literals) : Type 0 where
  pub says : OfGroups kids segment order rows (λ p n. (v : Bool) (f : ℕ) → f < 64
      → Says (sign_word r v) f (T (bit (sign_word wanted v) f) × SomePair p n (Pair p n f v)))
