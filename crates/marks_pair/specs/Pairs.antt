-- The literals (f, v) that a pair of children of an all-of group may clobber. Definitions only.
use Rattle.std.specs.Prelude.{◌≡◌, ◌⊎◌, Bool, true, false, not, List, ℕ, ◌<◌, T}
use Rattle.base.specs.Bits.{bit}
use Rattle.base.specs.Words.{Says}
use Rattle.runs.specs.Plan.{Plan, Child, Before, Unordered}
use Rattle.tables.specs.declared.Segment.{Segment}
use Rattle.marks_row.specs.Columns.{may_pre, may_post, requires, asserts, posts, Fact, word_in}
use Rattle.marks_between.specs.Passing.{Between, OfGroups}
use Rattle.marks_pair.specs.declared.Literals.{Literals}

-- c requires the literal and d asserts the opposite; or (02) c and d leave the flag opposite ways
abbrev pub Opposite : Plan → ℕ → Bool → ℕ → ℕ → Type 0
Opposite p f v c d = (Fact p c f (requires v) × Fact p d f (asserts (not v)))
    ⊎ (Fact p c f (posts v) × Fact p d f (posts (not v)))

-- the rules by pairs of mark 6: for unordered children, and for a child that stands before another
abbrev pub Pair : Plan → ℕ → ℕ → Bool → ℕ → ℕ → Type 0
Pair p n f v c d = (Unordered p c d × Opposite p f v c d)
    ⊎ (Before p d c × ((Fact p d f (may_post (not v)) × Fact p c f (may_pre v)) × Between p n f c d))

-- the word of one sign
abbrev pub sign_word : Literals → Bool → ℕ
sign_word w false = w.clear
sign_word w true = w.set

-- the wanted literals that the pair c, d of children clobbers
pub record PairWords (kids : List ℕ) (segment : Segment) (order rows : List ℕ) (wanted : Literals) (c d : ℕ)
    (r : Literals) : Type 0 where
  pub among : (v : Bool) (f : ℕ) → f < 64 → T (bit (sign_word r v) f) → T (bit (sign_word wanted v) f)
  pub says : OfGroups kids segment order rows (λ p n. Child p n c → Child p n d → (v : Bool) (f : ℕ) → f < 64
      → Says (sign_word r v) f (T (bit (sign_word wanted v) f) × Pair p n f v c d))

-- by its row, c requires or leaves no wanted literal
pub record Unconcerned (rows : List ℕ) (wanted : Literals) (c : ℕ) : Type 0 where
  pub none : (v : Bool) (f : ℕ) → f < 64 → T (bit (sign_word wanted v) f)
      → ¬ (T (bit (word_in rows c (requires v)) f) ⊎ T (bit (word_in rows c (posts v)) f))

-- where the pairs with c go on: at the next position, or at the end if c is unconcerned
abbrev pub NextPartner : List ℕ → Literals → ℕ → ℕ → ℕ → ℕ → Type 0
NextPartner rows wanted c next end r = (r ≡ next) ⊎ ((r ≡ end) × Unconcerned rows wanted c)
