-- What the siblings of a child in an all-of group allow, as words. Definitions only.
use Rattle.std.specs.Prelude.{◌≡◌, ◌≢◌, ◌⊎◌, true, false, List, ℕ, ◌<◌, T}
use Rattle.base.specs.Bits.{bit}
use Rattle.base.specs.Words.{Says}
use Rattle.runs.specs.Plan.{Plan, Child, Before, Unordered}
use Rattle.runs.specs.Summary.{Silent}
use Rattle.marks_siblings.specs.declared.Siblings.{Siblings}
use Rattle.tables.specs.declared.Segment.{Segment}
use Rattle.tables.specs.Represents.{before_code, after_code, code, RepresentsOrder}
use Rattle.marks_row.specs.Columns.{avoid, quiet, asserts, Fact, word_in}
use Rattle.marks_siblings.specs.Group.{Group}

-- by the table, a and b are unordered
pub record Apart (order : List ℕ) (a b : ℕ) : Type 0 where
  pub not_before : code order a b ≢ before_code
  pub not_after : code order a b ≢ after_code
  pub distinct : a ≢ b

-- bit f of r is set if that of w is and, where C holds, A does
pub record Narrows (w r : ℕ) (C : Type 0) (A : ℕ → Type 0) : Type 0 where
  pub says : (f : ℕ) → f < 64 → Says r f (T (bit w f) × (C → A f))

-- the words r are the words s with one sibling more
pub record Narrowed (order rows : List ℕ) (child sibling : ℕ) (s r : Siblings) : Type 0 where
  pub avoid_before : Narrows s.avoid_before r.avoid_before (code order sibling child ≡ before_code)
      (λ f. T (bit (word_in rows sibling avoid) f))
  pub clear_before : Narrows s.clear_before r.clear_before (code order sibling child ≡ before_code)
      (λ f. T (bit (word_in rows sibling (quiet false)) f))
  pub set_before : Narrows s.set_before r.set_before (code order sibling child ≡ before_code)
      (λ f. T (bit (word_in rows sibling (quiet true)) f))
  pub avoid_after : Narrows s.avoid_after r.avoid_after (code order sibling child ≡ after_code)
      (λ f. T (bit (word_in rows sibling avoid) f))
  pub silent_apart : Narrows s.silent_apart r.silent_apart (Apart order sibling child)
      (λ f. ¬ (T (bit (word_in rows sibling (asserts false)) f) ⊎ T (bit (word_in rows sibling (asserts true)) f)))

-- What the words say of the siblings of c, all of them or some: E Q is 'each of them has Q'. Those before c avoid the
-- flag, are quiet for its literals;
-- those after c avoid the flag; those unordered with c are silent.
pub record SiblingWords (p : Plan) (c : ℕ) (E : (ℕ → Type 0) → Type 0) (s : Siblings) : Type 0 where
  pub avoid_before : (f : ℕ) → f < 64 → Says s.avoid_before f (E (λ b. Before p b c → Fact p b f avoid))
  pub clear_before : (f : ℕ) → f < 64 → Says s.clear_before f (E (λ b. Before p b c → Fact p b f (quiet false)))
  pub set_before : (f : ℕ) → f < 64 → Says s.set_before f (E (λ b. Before p b c → Fact p b f (quiet true)))
  pub avoid_after : (f : ℕ) → f < 64 → Says s.avoid_after f (E (λ b. Before p c b → Fact p b f avoid))
  pub silent_apart : (f : ℕ) → f < 64 → Says s.silent_apart f (E (λ b. Unordered p b c → Silent p f b))

-- for every plan and node n of which the segment has the children: what the words say of all siblings of the child c of
-- n
abbrev pub SiblingsOf : List ℕ → Segment → List ℕ → List ℕ → ℕ → Siblings → Type 0
SiblingsOf kids segment order rows c s = (p : Plan) (n : ℕ) → Group kids segment rows p n → RepresentsOrder order p
    → Child p n c
    → SiblingWords p c (λ Q. (b : ℕ) → Child p n b → Q b) s
