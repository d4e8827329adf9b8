-- Words put together child by child, and what they come to over all children of a group. Assumes nothing.
use mathlib.Core.Path.{◌≡◌, refl}
use mathlib.Core.Logic.Iff
use mathlib.Core.Logic.{by_cases, inl, inr}
use mathlib.Core.List.{List}
use Prim.Native.Nat.{ℕ, ◌+◌, ◌≤◌, ◌<◌}
use native.Mathlib.Decide.{dec_lt}
use native.Mathlib.Omega.{arith}
use lib.ListN.{get_or}
use Rattle.std.proofs.Common.{replicate}
use Rattle.std.proofs.lemmas.List.{get_or-replicate}
use Rattle.base.specs.Words.{ones, Says}
use Rattle.base.proofs.Says.{says_map, says_eq, says_and, says_all, says_none}
use Rattle.runs.specs.Plan.{all_of, any_of, optional, Plan}
use Rattle.tables.specs.declared.Segment.{Segment}
use Rattle.tables.specs.Segments.{Position}
use Rattle.marks_row.specs.Columns.{Column, avoid, quiet, covered, may_pre, may_post, may_inc, requires, asserts}
use Rattle.marks_row.specs.Columns.{posts, may_clobber, must_inc, must_clobber}
use Rattle.marks_row.specs.Columns.{index_of, first_word, Fact, word_at, Right, Row, RowIs}
use Rattle.marks_siblings.specs.Group.{Group}
use Rattle.marks_group.specs.Groups.{Others, WithinRow, Merged, Unmerged, Joined}
use Rattle.marks_group.specs.Empty.{with_empty}
use Rattle.marks_group.proofs.Any.{some_branch, every_branch, empty_avoids, empty_quiet, optional_branch}
use Rattle.marks_group.proofs.Any.{optional_musts}
use Rattle.marks_group.proofs.All.{every_part, some_part}
use Rattle.marks_row.proofs.Rows.{index_small}
use Rattle.runs.proofs.Plan.Numbers.{sign_small}
use Rattle.tables.proofs.Segments.{listed, every_more, some_more, every_none, some_none, every_child, some_child}

module _ {first last : ℕ} {kids : List ℕ} {lo : ℕ} {P M : Column → ℕ → ℕ → Type 0} where
  pub joined_none : {r : List ℕ} → Unmerged first last r → Joined first last kids lo lo P M r
  joined_none u = record {
    every = λ k a b f l. every_none (omega arith) l (u.every (index_of k) (index_small k) a b);
    some = λ k x f l. some_none (omega arith) (u.some (index_of k) (index_small k) x);
  }

  pub joined_more : {a rows mask r : List ℕ} {i c : ℕ} → c ≡ get_or kids i 0 → lo ≤ i
      → Merged first last a rows c mask r
      → ((k : Column) (f : ℕ) → f < 64 → Says (word_at rows c (index_of k)) f (P k f c))
      → ((k : Column) (f : ℕ) → f < 64 → Says (get_or mask (index_of k) 0) f (M k f c))
      → Joined first last kids lo i P M a → Joined first last kids lo (i + 1) P M r
  joined_more e l m rp rm j = let here = rw e at m in record {
    every = λ k a b f s. every_more l ((here.words (index_of k) (index_small k)).every a b) (j.every k a b f s)
        (rw e at (rp k f s));
    some = λ k x f s. some_more l ((here.words (index_of k) (index_small k)).some x) (j.some k x f s)
        (says_and refl (rw e at (rp k f s)) (rw e at (rm k f s)));
  }

-- a mask of ones
pub unmasked : (k : Column) (f : ℕ) → f < 64 → Says (get_or (replicate 23 ones) (index_of k) 0) f (Unit {0})
unmasked k f l = says_all l (get_or-replicate 23 (index_of k) ones 0 (index_small k)) tt

module _ {kids : List ℕ} {segment : Segment} {rows : List ℕ} {p : Plan} {n : ℕ} (g : Group kids segment rows p n) where
  -- the row of a child at a position of the segment
  pub child_row : {i c : ℕ} → c ≡ get_or kids i 0 → Position segment i → Right p rows c
  child_row {c = c} e at = g.children c (listed g.listed e at)

  -- the words of an any_of group, over all its children
  abbrev pub AnyWords : ℕ → List ℕ → Type 0
  AnyWords i r = Joined (first_word must_inc) 23 kids segment.start i (λ k f c. Fact p c f k) (λ k f c. Unit {0}) r

  pub any_row : p.tree.kind n ≡ any_of → {r : List ℕ} → AnyWords segment.end r → Row p n r
  any_row kn j = record {
    says = λ k f l. by_cases (dec_lt (index_of k) (first_word must_inc))
        (λ s. says_map (Iff.trans (some_child g.listed (λ c hc. (λ x. x.0, λ x. (x, tt))))
        (Iff.symm (some_branch p g.well_formed kn f k s)))
        (j.some k (inl s) f l))
        (λ ns. let s : first_word must_inc ≤ index_of k = omega (arith, ns) in
        says_map (Iff.trans (every_child g.listed (λ c hc. (λ x. x, λ x. x)))
        (Iff.symm (every_branch p g.well_formed kn f k s)))
        (j.every k s (index_small k) f l));
  }

  -- the words of an optional group: those of its children, and of the branch without tasks
  pub optional_row : p.tree.kind n ≡ optional → {a r : List ℕ} → AnyWords segment.end a → RowIs (with_empty a) r
      → Row p n r
  optional_row kn {a} j e = record { says = λ k f l. says_eq (e.is k) (at k f l) }
    where
      branch : (k : Column) → first_word covered ≤ index_of k → index_of k < first_word must_inc → (f : ℕ) → f < 64
          → Says (get_or a (index_of k) 0) f (Fact p n f k)
      branch k m s f l = says_map (Iff.trans (some_child g.listed (λ c hc. (λ x. x.0, λ x. (x, tt))))
          (Iff.symm (optional_branch p g.well_formed kn f k m s)))
          (j.some k (inl s) f l)

      at : (k : Column) (f : ℕ) → f < 64 → Says (with_empty a k) f (Fact p n f k)
      at avoid f l = says_all l refl (empty_avoids p g.well_formed kn f)
      at (quiet v) f l = says_all l refl (empty_quiet p g.well_formed kn f v)
      at (covered v) f l = branch (covered v) (omega arith) (omega (arith, sign_small v)) f l
      at (may_pre v) f l = branch (may_pre v) (omega arith) (omega (arith, sign_small v)) f l
      at (may_post v) f l = branch (may_post v) (omega arith) (omega (arith, sign_small v)) f l
      at (may_inc v) f l = branch (may_inc v) (omega arith) (omega (arith, sign_small v)) f l
      at (requires v) f l = branch (requires v) (omega arith) (omega (arith, sign_small v)) f l
      at (asserts v) f l = branch (asserts v) (omega arith) (omega (arith, sign_small v)) f l
      at (posts v) f l = branch (posts v) (omega arith) (omega (arith, sign_small v)) f l
      at (may_clobber v) f l = branch (may_clobber v) (omega arith) (omega (arith, sign_small v)) f l
      at (must_inc v) f l = says_none refl (optional_musts p g.well_formed kn f v).0
      at (must_clobber v) f l = says_none refl (optional_musts p g.well_formed kn f v).1

  -- the words of an all_of group, over all its children
  abbrev pub AllWords : ℕ → List ℕ → Type 0
  AllWords i r = Joined (index_of avoid) (first_word covered) kids segment.start i (λ k f c. Fact p c f k)
      (λ k f c. Others p n c f k) r

  pub all_row : p.tree.kind n ≡ all_of → {r : List ℕ} → AllWords segment.end r → WithinRow p n r
  all_row kn j = record {
    says = λ k f l. by_cases (dec_lt (index_of k) (first_word covered))
        (λ s. says_map (Iff.trans (every_child g.listed (λ c hc. (λ x. x, λ x. x)))
        (Iff.symm (every_part p g.well_formed g.node kn f k s)))
        (j.every k (omega arith) s f l))
        (λ ns. let s : first_word covered ≤ index_of k = omega (arith, ns) in
        says_map (Iff.trans (some_child g.listed (λ c hc. (λ x. x, λ x. x)))
        (Iff.symm (some_part p g.well_formed g.node kn f k s)))
        (j.some k (inr s) f l));
  }
