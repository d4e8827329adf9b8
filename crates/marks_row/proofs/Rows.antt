-- Rows that are read and written word by word, and what stays right. Assumes nothing.
use mathlib.Core.Path.{◌≡◌, refl, ap, ◌∙◌}
use mathlib.Core.Logic.{by_cases, ◌↔◌}
use mathlib.Core.Bool.{true, false}
use mathlib.Core.List.{List, [], ◌∷◌}
use Prim.Native.Nat.{ℕ, ◌+◌, ◌*◌, ◌<◌}
use native.Mathlib.Decide.{ℕ_discrete}
use native.Mathlib.Omega.{arith}
use lib.ListN.{length, get_or, set}
use lib.Seq.{get_or-set_same, get_or-set_other}
use lib.Dec.{T}
use Rattle.base.specs.Bits.{bit}
use Rattle.base.specs.Words.{Says}
use Rattle.base.proofs.Says.{says_eq}
use Rattle.runs.specs.Plan.{Plan}
use Rattle.marks_row.specs.Columns.{Column, avoid, quiet, covered, may_pre, may_post, may_inc, requires, asserts}
use Rattle.marks_row.specs.Columns.{posts, may_clobber, must_inc, must_clobber}
use Rattle.marks_row.specs.Columns.{index_of, Fact, word_at, Right, Row, RowIs, RowWritten}
use Rattle.runs.proofs.Plan.Numbers.{sign_small}

-- an array filled from the front: what holds of each word written holds of one more
pub filled : (P : ℕ → ℕ → Type 0) (out : List ℕ) (k x : ℕ) → k < length out → P k x
    → ((j : ℕ) → j < k → P j (get_or out j 0))
    → (j : ℕ) → j < k + 1 → P j (get_or (set out k x) j 0)
filled P out k x l p h j m = by_cases (ℕ_discrete j k) (λ e. rw (e, get_or-set_same out k x 0 l) p)
    (λ ne. rw (get_or-set_other out k j x 0 ne) (h j (omega arith)))

-- one word more of the row of a node: those written stand, and so do all other rows
pub row_here : (rows words : List ℕ) (node k : ℕ) → node < 128 → k < 23 → length rows ≡ 2944
    → ((j : ℕ) → j < k → word_at rows node j ≡ get_or words j 0)
    → (j : ℕ) → j < k + 1 → word_at (set rows (node * 23 + k) (get_or words k 0)) node j ≡ get_or words j 0
row_here rows words node k l m e h j i =
    by_cases (ℕ_discrete j k)
    (λ q. rw q (get_or-set_same rows (node * 23 + k) (get_or words k 0) 0 (omega arith)))
    (λ q. get_or-set_other rows (node * 23 + k) (node * 23 + j) (get_or words k 0) 0
    (λ (z : node * 23 + j ≡ node * 23 + k). q (omega arith)) ∙ h j (omega arith))

pub row_there : (rows rows₀ words : List ℕ) (node k : ℕ) → k < 23
    → ((c j : ℕ) → j < 23 → (c ≡ node → ⊥) → word_at rows c j ≡ word_at rows₀ c j)
    → (c j : ℕ) → j < 23 → (c ≡ node → ⊥) → word_at (set rows (node * 23 + k) (get_or words k 0)) c j ≡ word_at rows₀ c
    j
row_there rows rows₀ words node k m h c j i q =
    get_or-set_other rows (node * 23 + k) (c * 23 + j) (get_or words k 0) 0
    (λ (z : c * 23 + j ≡ node * 23 + k). q (omega arith)) ∙ h c j i q

pub index_small : (k : Column) → index_of k < 23
index_small avoid = omega arith
index_small (quiet v) = omega (arith, sign_small v)
index_small (covered v) = omega (arith, sign_small v)
index_small (may_pre v) = omega (arith, sign_small v)
index_small (may_post v) = omega (arith, sign_small v)
index_small (may_inc v) = omega (arith, sign_small v)
index_small (requires v) = omega (arith, sign_small v)
index_small (asserts v) = omega (arith, sign_small v)
index_small (posts v) = omega (arith, sign_small v)
index_small (may_clobber v) = omega (arith, sign_small v)
index_small (must_inc v) = omega (arith, sign_small v)
index_small (must_clobber v) = omega (arith, sign_small v)

-- the words of all columns in their order: each stands at the index of its column
abbrev pub row_of : (Column → ℕ) → List ℕ
row_of w =
    w avoid ∷ w (quiet false) ∷ w (quiet true) ∷ w (covered false) ∷ w (covered true) ∷ w (may_pre false)
    ∷ w (may_pre true) ∷ w (may_post false) ∷ w (may_post true) ∷ w (may_inc false) ∷ w (may_inc true)
    ∷ w (requires false) ∷ w (requires true) ∷ w (asserts false) ∷ w (asserts true) ∷ w (posts false)
    ∷ w (posts true) ∷ w (may_clobber false) ∷ w (may_clobber true) ∷ w (must_inc false) ∷ w (must_inc true)
    ∷ w (must_clobber false) ∷ w (must_clobber true) ∷ []

pub row_of_lem : (w : Column → ℕ) → RowIs w (row_of w)
row_of_lem w = record { is = at }
  where
    at : (k : Column) → get_or (row_of w) (index_of k) 0 ≡ w k
    at avoid = refl
    at (quiet false) = refl
    at (quiet true) = refl
    at (covered false) = refl
    at (covered true) = refl
    at (may_pre false) = refl
    at (may_pre true) = refl
    at (may_post false) = refl
    at (may_post true) = refl
    at (may_inc false) = refl
    at (may_inc true) = refl
    at (requires false) = refl
    at (requires true) = refl
    at (asserts false) = refl
    at (asserts true) = refl
    at (posts false) = refl
    at (posts true) = refl
    at (may_clobber false) = refl
    at (may_clobber true) = refl
    at (must_inc false) = refl
    at (must_inc true) = refl
    at (must_clobber false) = refl
    at (must_clobber true) = refl

-- a word of a right row, by its index and by its column
module _ {p : Plan} {rows : List ℕ} {n : ℕ} (r : Right p rows n) where
  pub read : (k : Column) (i x f : ℕ) → i ≡ index_of k → x ≡ word_at rows n i → f < 64 → Says x f (Fact p n f k)
  read k i x f e q l = says_eq (q ∙ ap (λ (j : ℕ). word_at rows n j) e) (r.says k f l)

  pub cell : {f : ℕ} → f < 64 → (k : Column) → T (bit (word_at rows n (index_of k)) f) ↔ Fact p n f k
  cell {f} l k = ((r.says k f l).to, (r.says k f l).from)

module _ {p : Plan} {rows rows' : List ℕ} {n : ℕ} {w : List ℕ} (h : RowWritten rows rows' n w) (r : Row p n w) where
  pub written_right : Right p rows' n
  written_right = record { says = λ k f l. says_eq (h.here (index_of k) (index_small k)) (r.says k f l) }

  -- what was right is right
  pub written_keeps : (m : ℕ) → Right p rows m → Right p rows' m
  written_keeps m x = by_cases (ℕ_discrete m n) (λ e. rw e written_right)
      (λ ne. record { says = λ k f l. says_eq (h.there m (index_of k) (index_small k) ne) (x.says k f l) })
