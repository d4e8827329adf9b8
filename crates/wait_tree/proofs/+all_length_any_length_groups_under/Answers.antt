-- `all_length`, `any_length` and `groups_under` meet their contracts: the children before i are worked out, with all
-- under them. Assumes nothing.
use Rattle.std.proofs.Common.{ℕ, refl, sym, ◌∙◌, ◌<◌, arith}
use Rattle.plan_check.proofs.Accepted.{clean}
use Rattle.plan_format.specs.Format.{node_count}
use Rattle.tables.specs.Segments.{segment_of, Position}
use Rattle.tables.proofs.Turns.{kid_later, nearer}
use Rattle.wait_group.proofs.Children.{at_group, turn}
use Rattle.wait_tree.proofs.Groups.{child_more, task_worked, all_group, any_group, child_lengths, all_worked}
use Rattle.wait_tree.proofs.Groups.{any_worked}
use Rattle.wait_tree.proofs.+all_length_any_length_groups_under.Goals as goal
use Rattle.wait_tree.proofs.+all_length_any_length_groups_under.Goals.{
  groups_under-After-from-child,
  groups_under-then-k,
  groups_under-else-k+then-k-2,
  groups_under-else-k+else-k-2,
}

-- ---- an all-of group
pub all_length-spread-requires : goal.all_length-spread-requires
all_length-spread-requires t c =
    let o = c.requires.0 in (o, c.groups_under.ensures.tables, child_lengths o refl c.groups_under.ensures)

pub all_length-returns : goal.all_length-returns
all_length-returns t c = all_worked c.requires.0 refl c.groups_under.ensures c.spread.ensures

-- ---- an any-of or optional group
pub any_length-longest_child-requires : goal.any_length-longest_child-requires
any_length-longest_child-requires t c =
    let o = c.requires.0 in (o, child_lengths o refl c.groups_under.ensures)

pub any_length-returns : goal.any_length-returns
any_length-returns t c =
    let o = c.requires.0 in any_worked o refl c.groups_under.ensures o.kind c.longest_child.ensures

-- ---- what is under a group
-- the child of this turn
at : (t : ℕ) (c : groups_under-After-from-child t) → Position (segment_of c.args.from.now c.args.node) c.loop-i.i
at t c = turn c.args.from.now c.args.node c.children-segment.ensures (omega arith) (omega arith)

-- it has a greater number than its group
later : (t : ℕ) (c : groups_under-After-from-child t)
    → (c.args.node < c.from-child.result) × (c.from-child.result < node_count c.args.plan.now)
later t c = kid_later (at_group c.requires.0) refl (at t c) c.from-child.ensures

pub groups_under-kind-k-requires : goal.groups_under-kind-k-requires
groups_under-kind-k-requires t c =
    ((later t (goal.at.groups_under-kind-k-requires t c).After-from-child).1, (clean _ c.requires.0.accepted).fits)

pub groups_under-all_length-requires : goal.groups_under-all_length-requires
groups_under-all_length-requires t c =
    let l = later t (goal.at.groups_under-all_length-requires t c).After-from-child in (
      omega (arith, c.decreases, nearer refl l),
      (
        all_group c.requires.0.accepted c.requires.0.tree l.1 c.kind-k.ensures c.if-k.true,
        c.loop-i.invariant.tables,
      ),
    )

pub groups_under-any_length-requires : goal.groups_under-any_length-requires
groups_under-any_length-requires t c =
    let l = later t (goal.at.groups_under-any_length-requires t c).After-from-child in (
      omega (arith, c.decreases, nearer refl l),
      (
        any_group c.requires.0.accepted c.requires.0.tree l.1 c.kind-k.ensures c.if-k.false
            c.if-k-2.true,
        c.loop-i.invariant.tables,
      ),
    )

pub groups_under-loop-i-preserved : goal.groups_under-loop-i-preserved
groups_under-loop-i-preserved t c =
    let s = c.loop-i.invariant in
    let turn = (goal.at.groups_under-loop-i-preserved t c).After-from-child in
    let p = at t turn in
    let e = c.from-child.ensures in
    elim c.if-k.branch [
      | groups_under-then-k w ↦ child_more e p s w.lengths-is w.waits-is w.all_length.ensures
      | groups_under-else-k+then-k-2 w ↦ child_more e p s w.lengths-is w.waits-is w.any_length.ensures
      | groups_under-else-k+else-k-2 w ↦
          child_more e p s w.lengths-is w.waits-is
          (task_worked c.requires.0.accepted (later t turn).1 (sym c.kind-k.ensures ∙ w.if-k-2.false) s.tables)
    ]
