-- The words that are worked out of a task's conditions say its facts. Assumes nothing.
use mathlib.Core.Path.{◌≡◌, refl, ap, ◌∙◌}
use mathlib.Core.Logic.Iff
use mathlib.Core.Bool.{Bool, true, false}
use mathlib.Core.Option.{none, some}
use mathlib.Core.List.{List}
use Prim.Native.Nat.{ℕ, ◌+◌, ◌*◌, ◌-◌, ◌^◌, ◌<◌}
use native.Mathlib.Omega.{arith}
use lib.Bits.{bit_and, bit_or}
use lib.ListN.{get_or}
use Rattle.base.specs.Words.{ones, Says}
use Rattle.base.proofs.Says.{says_map, says_eq, says_and, says_or, says_not, says_neither, says_none}
use Rattle.runs.specs.Plan.{Place, pre, inc, post, Plan, place_number, sign_number}
use Rattle.runs.proofs.Summary.Clobber.{clobber_task}
use Rattle.runs.proofs.Summary.ReflectClobber.{must_clobber_task}
use Rattle.marks_row.specs.declared.SignWords.{SignWords}
use Rattle.marks_row.specs.Columns.{Column, avoid, quiet, covered, may_pre, may_post, may_inc, requires, asserts}
use Rattle.marks_row.specs.Columns.{posts, may_clobber, must_inc, must_clobber}
use Rattle.marks_row.specs.Columns.{Fact, Row}
use Rattle.marks_row.specs.Tasks.{AtTask, WordsOfSign}
use Rattle.marks_row.proofs.Nots.{not_is, neither_is}
use Rattle.marks_row.proofs.Rows.{row_of, row_of_lem}
use Rattle.marks_row.proofs.Task.{no_sign, a_sign, avoid_task, quiet_is, covered_is, may_pre_is, may_post_is}
use Rattle.marks_row.proofs.Task.{may_inc_is, must_inc_is, with_is, posts_is}

-- the words of the two signs
abbrev pub by_sign : SignWords → SignWords → Bool → SignWords
by_sign c d false = c
by_sign c d true = d

-- the word of a task in each column; x has the flags that it does not assert
abbrev pub task_word : ℕ → (Bool → SignWords) → Column → ℕ
task_word x w avoid = x
task_word x w (quiet v) = (w v).quiet
task_word x w (covered v) = (w v).covered
task_word x w (may_pre v) = (w v).pre
task_word x w (may_post v) = (w v).post
task_word x w (may_inc v) = (w v).inc
task_word x w (requires v) = (w v).pre_or_inc
task_word x w (asserts v) = (w v).inc_or_post
task_word x w (posts v) = (w v).post
task_word x w (may_clobber v) = 0
task_word x w (must_inc v) = (w v).inc
task_word x w (must_clobber v) = 0

module _ {conds : List ℕ} {n : ℕ} {p : Plan} (t : AtTask conds n p) where
  -- a word read from the table of conditions
  word : (k : Place) (v : Bool) (i x f : ℕ) → i ≡ 2 * place_number k + sign_number v → x ≡ get_or conds (n * 6 + i) 0
      → f < 64 → Says x f (p.conditions.sign k n f ≡ some v)
  word k v i x f e q l = says_eq (q ∙ ap (λ (j : ℕ). get_or conds (n * 6 + j) 0) e)
      (t.conditions.says n t.node t.is_task k v f l)

  module _ (a b : ℕ) (qa : a ≡ get_or conds (n * 6 + 4) 0) (qb : b ≡ get_or conds (n * 6 + 5) 0) (la : a < 2 ^ 64)
      (lb : b < 2 ^ 64) where
    asserted : (f : ℕ) → f < 64 → Says (bit_or a b) f (¬ (p.conditions.sign post n f ≡ none))
    asserted f l = says_map (a_sign _)
        (says_or {x = a} {y = b} refl (word post false 4 a f refl qa l) (word post true 5 b f refl qb l))

    silent : (f : ℕ) → f < 64 → Says (ones - bit_or a b) f (p.conditions.sign post n f ≡ none)
    silent f l = says_map (no_sign _) (says_neither {x = a} {y = b} l (neither_is a b la lb)
        (word post false 4 a f refl qa l) (word post true 5 b f refl qb l))

    pub sign_says : (v : Bool) (s x y z : ℕ) → x < 2 ^ 64 → s ≡ sign_number v → x ≡ get_or conds (n * 6 + s) 0
        → y ≡ get_or conds (n * 6 + (2 + s)) 0
        → z ≡ get_or conds (n * 6 + (4 + s)) 0 → WordsOfSign p n v (record {
          quiet = bit_and (ones - bit_or a b) (ones - x);
          covered = bit_and (bit_or a b) (ones - x);
          pre = x;
          post = z;
          inc = y;
          pre_or_inc = bit_or x y;
          inc_or_post = bit_or y z;
        })
    sign_says v s x y z lx e qx qy qz = record {
      quiet = λ f l. says_map (quiet_is p t.well_formed t.is_task f v)
          (says_and {x = ones - bit_or a b} {y = ones - x} refl (silent f l) (no_pre f l));
      covered = λ f l. says_map (covered_is p t.well_formed t.is_task f v)
          (says_and {x = bit_or a b} {y = ones - x} refl (asserted f l) (no_pre f l));
      pre = λ f l. says_map (may_pre_is p t.well_formed t.is_task f v) (is_pre f l);
      post = λ f l. says_map (may_post_is p t.well_formed t.is_task f v) (is_post f l);
      inc = λ f l. says_map (may_inc_is p t.well_formed t.is_task f v) (is_inc f l);
      pre_or_inc = λ f l. says_map (with_is p t.well_formed t.is_task f v pre inc)
          (says_or {x = x} {y = y} refl (is_pre f l) (is_inc f l));
      inc_or_post = λ f l. says_map (with_is p t.well_formed t.is_task f v inc post)
          (says_or {x = y} {y = z} refl (is_inc f l) (is_post f l));
    }
      where
        is_pre : (f : ℕ) → f < 64 → Says x f (p.conditions.sign pre n f ≡ some v)
        is_pre f l = word pre v s x f (omega (arith, e)) qx l

        no_pre : (f : ℕ) → f < 64 → Says (ones - x) f (¬ (p.conditions.sign pre n f ≡ some v))
        no_pre f l = says_not l (not_is x lx) (is_pre f l)

        is_inc : (f : ℕ) → f < 64 → Says y f (p.conditions.sign inc n f ≡ some v)
        is_inc f l = word inc v (2 + s) y f (omega (arith, e)) qy l

        is_post : (f : ℕ) → f < 64 → Says z f (p.conditions.sign post n f ≡ some v)
        is_post f l = word post v (4 + s) z f (omega (arith, e)) qz l

    pub task_row : (c d : SignWords) → WordsOfSign p n false c → WordsOfSign p n true d
        → Row p n (row_of (task_word (ones - bit_or a b) (by_sign c d)))
    task_row c d x y = record {
      says =
          λ k f l. says_eq ((row_of_lem (task_word (ones - bit_or a b) (by_sign c d))).is k) (at k f l);
    }
      where
        both : (v : Bool) → WordsOfSign p n v (by_sign c d v)
        both false = x
        both true = y

        at : (k : Column) (f : ℕ) → f < 64 → Says (task_word (ones - bit_or a b) (by_sign c d) k) f
            (Fact p n f k)
        at avoid f l = says_map (avoid_task p t.well_formed t.is_task f) (silent f l)
        at (quiet v) f l = (both v).quiet f l
        at (covered v) f l = (both v).covered f l
        at (may_pre v) f l = (both v).pre f l
        at (may_post v) f l = (both v).post f l
        at (may_inc v) f l = (both v).inc f l
        at (requires v) f l = (both v).pre_or_inc f l
        at (asserts v) f l = (both v).inc_or_post f l
        -- its postconditions are its may postconditions
        at (posts v) f l = says_map
            (Iff.trans (Iff.symm (may_post_is p t.well_formed t.is_task f v))
            (posts_is p t.well_formed t.is_task f v)) ((both v).post f l)
        at (may_clobber v) f l = says_none refl (clobber_task p t.well_formed f v t.is_task)
        -- must incondition is may incondition
        at (must_inc v) f l = says_map
            (Iff.trans (Iff.symm (may_inc_is p t.well_formed t.is_task f v))
            (must_inc_is p t.well_formed t.is_task f v)) ((both v).inc f l)
        at (must_clobber v) f l = says_none refl (must_clobber_task p t.well_formed f v t.is_task)
