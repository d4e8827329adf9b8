-- `group`, `all_of`, `any_of` and `groups_under` meet their contracts, by the laws of a group and its children. Assumes
-- nothing.
use mathlib.Core.Path.{◌≡◌, refl}
use native.Mathlib.Omega.{arith}
use Rattle.tables.specs.Segments.{Position}
use Rattle.tables.proofs.Turns.{at_segment}
use Rattle.marks_tree.proofs.Children.{is_task, is_all, is_choice_lem, child_more}
use Rattle.marks_tree.proofs.Children.{any_kind, task_filled, all_filled, any_filled}
use Rattle.marks_tree.proofs.+all_of_any_of_group_groups_under.Goals as goal

-- ---- a node
pub group-returns-then-k : goal.group-returns-then-k
group-returns-then-k t c = any_kind (is_all _ _ c.if-k.true) c.all_of.ensures

pub group-returns-then-k-2 : goal.group-returns-then-k-2
group-returns-then-k-2 t c =
    any_kind (is_choice_lem _ _ c.if-k.false c.if-k-2.true) c.any_of.ensures

pub group-returns-else-k-2 : goal.group-returns-else-k-2
group-returns-else-k-2 t c = any_kind (is_task _ _ c.if-k-2.false) (task_filled c.requires.1)

-- ---- an all_of group
pub all_of-returns : goal.all_of-returns
all_of-returns t c =
    let under = c.groups_under-segment.ensures in
    all_filled _ _ _ _ _ _ _ under.0 under.1 c.write_row.ensures c.all_row-words.ensures

-- ---- an any_of or optional group
pub any_of-returns : goal.any_of-returns
any_of-returns t c =
    let under = c.groups_under-segment.ensures in
    any_filled _ _ _ _ _ _ _ under.0 under.1 c.write_row.ensures refl c.any_words-words.ensures

-- ---- what is under a group
pub groups_under-loop-i-preserved : goal.groups_under-loop-i-preserved
groups_under-loop-i-preserved t c =
    let at : Position c.children-segment.result c.loop-i.i = record { low = omega arith; high = omega arith } in
    child_more _ _ _ _ _ _ _ c.children-segment.ensures c.from.ensures at c.loop-i.invariant c.group.ensures

pub groups_under-returns : goal.groups_under-returns
groups_under-returns t c =
    let segment = at_segment c.requires.0 c.children-segment.ensures in
    let e : c.loop-i.i ≡ c.children-segment.result.end = omega (arith, segment.rises) in
    (c.children-segment.ensures, rw e at c.loop-i.invariant)
