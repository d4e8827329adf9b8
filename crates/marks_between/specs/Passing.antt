-- The flags that pass from a child d of an all-of group n to a child c after it; b is another child. Definitions only.
use Rattle.std.specs.Prelude.{◌≡◌, ◌≢◌, ◌⊎◌, Bool, true, false, List, ℕ, ◌<◌, T}
use Rattle.base.specs.Bits.{bit}
use Rattle.base.specs.Words.{Says}
use Rattle.runs.specs.Plan.{Plan, Child, Before}
use Rattle.runs.specs.Summary.{Silent}
use Rattle.tables.specs.declared.Segment.{Segment}
use Rattle.tables.specs.Represents.{before_code, after_code, code, RepresentsOrder}
use Rattle.marks_row.specs.Columns.{avoid, asserts, Fact, word_in}
use Rattle.marks_row.specs.Musts.{SaysOf}
use Rattle.tables.specs.Segments.{Every}
use Rattle.marks_siblings.specs.Group.{Group}

module _ (p : Plan) (n f : ℕ) where
  -- each child that stands between d and c can avoid the flag
  abbrev pub Between : ℕ → ℕ → Type 0
  Between c d = (b : ℕ) → Child p n b → Before p d b → Before p b c → Fact p b f avoid

  -- no task under a child other than c and d asserts the flag, unless that child stands before d or after c
  abbrev pub Undisturbed : ℕ → ℕ → Type 0
  Undisturbed c d = (b : ℕ) → Child p n b → b ≢ c → b ≢ d → ¬ Before p b d → ¬ Before p c b → Silent p f b

  -- the flag may pass from d to c, always passes
  abbrev pub Passes : Bool → ℕ → ℕ → Type 0
  Passes false c d = Between c d
  Passes true c d = Undisturbed c d

-- by the table of orders, b stands after d and before c
abbrev pub StandsBetween : List ℕ → ℕ → ℕ → ℕ → Type 0
StandsBetween order b c d = (code order d b ≡ before_code) × (code order b c ≡ before_code)

-- b is neither c nor d, and stands neither before d nor after c
pub record Disturbs (order : List ℕ) (b c d : ℕ) : Type 0 where
  pub not_c : b ≢ c
  pub not_d : b ≢ d
  pub not_before : code order b d ≢ before_code
  pub not_after : code order b c ≢ after_code

-- b is one of the children that the flags have to pass
abbrev pub InTheWay : List ℕ → Bool → ℕ → ℕ → ℕ → Type 0
InTheWay order false b c d = StandsBetween order b c d
InTheWay order true b c d = Disturbs order b c d

-- by its row, b lets the flag pass: it can avoid it; no task under it asserts it
abbrev pub LetsPass : List ℕ → Bool → ℕ → ℕ → Type 0
LetsPass rows false b f = T (bit (word_in rows b avoid) f)
LetsPass rows true b f = ¬ (T (bit (word_in rows b (asserts false)) f) ⊎ T (bit (word_in rows b (asserts true)) f))

-- of the given flags, those for which every child at the positions from low to high has Q
pub record PartWord (kids : List ℕ) (low high flags : ℕ) (Q : ℕ → ℕ → Type 0) (r : ℕ) : Type 0 where
  pub says : (f : ℕ) → f < 64 → Says r f (T (bit flags f) × Every kids low high (Q f))

-- of the given flags, those that pass each of these children, by the tables
abbrev pub PassingPart : List ℕ → ℕ → ℕ → List ℕ → List ℕ → Bool → ℕ → ℕ → ℕ → ℕ → Type 0
PassingPart kids low high order rows always flags c d r =
    PartWord kids low high flags (λ f b. InTheWay order always b c d → LetsPass rows always b f) r

-- what is known of an all-of group n whose pairs of children are looked at
pub record Pairing (kids : List ℕ) (segment : Segment) (order rows : List ℕ) (p : Plan) (n : ℕ) : Type 0 where
  pub group : Group kids segment rows p n
  pub orders : RepresentsOrder order p

-- what holds of every plan and node n of which this is known
abbrev pub OfGroups : List ℕ → Segment → List ℕ → List ℕ → (Plan → ℕ → Type 0) → Type 0
OfGroups kids segment order rows Q = (p : Plan) (n : ℕ) → Pairing kids segment order rows p n → Q p n

-- of the given flags, those that pass from d to c
pub record PassingWord (kids : List ℕ) (segment : Segment) (order rows : List ℕ) (always : Bool)
    (flags c d r : ℕ) : Type 0 where
  pub among : (f : ℕ) → f < 64 → T (bit r f) → T (bit flags f)
  pub says : OfGroups kids segment order rows
      (λ p n. Child p n c → Child p n d → (f : ℕ) → f < 64 → Says r f (T (bit flags f) × Passes p n f always c d))

-- the wanted flags of the sign s for which the pair c, d of children of n has P
pub record PairWord (P : Plan → ℕ → ℕ → Bool → ℕ → ℕ → Type 0) (kids : List ℕ) (segment : Segment) (order rows : List ℕ)
    (s wanted c d r : ℕ) : Type 0 where
  pub among : (f : ℕ) → f < 64 → T (bit r f) → T (bit wanted f)
  pub says : OfGroups kids segment order rows
      (λ p n. Child p n c → Child p n d → SaysOf s r (λ f v. T (bit wanted f) × P p n f v c d))

-- some pair of children of n
abbrev pub SomePair : Plan → ℕ → (ℕ → ℕ → Type 0) → Type 0
SomePair p n P = (c : ℕ) × Child p n c × ((d : ℕ) × Child p n d × P c d)
