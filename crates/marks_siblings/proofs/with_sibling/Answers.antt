-- `with_sibling` meets its contract: a sibling before the child narrows three words, one after it one, an unordered one
-- another. Assumes nothing.
use mathlib.Core.Path.{refl}
use native.Mathlib.Omega.{arith}
use Rattle.marks_siblings.proofs.Sibling.{narrows_kept, narrows_taken, narrows_map, neither}
use Rattle.marks_siblings.proofs.with_sibling.Goals as goal

pub returns-then-stands : goal.returns-then-stands
returns-then-stands c =
    let e = c.if-stands.true in
    record {
      avoid_before = narrows_taken e c.word_at.ensures refl;
      clear_before = narrows_taken e c.word_at-then-stands.ensures refl;
      set_before = narrows_taken e c.word_at-then-stands-2.ensures refl;
      avoid_after = narrows_kept (λ q. omega (arith, e, q)) refl;
      silent_apart = narrows_kept (λ a. a.not_before e) refl;
    }

pub returns-then-stands-2 : goal.returns-then-stands-2
returns-then-stands-2 c =
    let e = c.if-stands-2.true in
    record {
      avoid_before = narrows_kept (λ q. omega (arith, e, q)) refl;
      clear_before = narrows_kept (λ q. omega (arith, e, q)) refl;
      set_before = narrows_kept (λ q. omega (arith, e, q)) refl;
      avoid_after = narrows_taken e c.word_at-then-stands-2-2.ensures refl;
      silent_apart = narrows_kept (λ a. a.not_after e) refl;
    }

pub returns-else-sibling-child : goal.returns-else-sibling-child
returns-else-sibling-child c =
    let not_before = c.if-stands.false in
    let not_after = c.if-stands-2.false in
    record {
      avoid_before = narrows_kept not_before refl;
      clear_before = narrows_kept not_before refl;
      set_before = narrows_kept not_before refl;
      avoid_after = narrows_kept not_after refl;
      silent_apart = narrows_map (λ a. a, λ a. a) (neither _ _)
          (narrows_taken (record {
            not_before = not_before;
            not_after = not_after;
            distinct = c.if-sibling-child.false;
          })
          c.neither.ensures refl);
    }
