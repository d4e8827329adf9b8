-- `run_progress::children` meets its contract. Assumes nothing.
use Rattle.base.proofs.Zeros.{zeros}
use Rattle.tables.specs.Sizes.{NODES}
use mathlib.Core.Path.{◌≡◌, refl, sym, ◌∙◌}
use Prim.Native.Nat.{◌+◌, ◌-◌, ◌<◌}
use native.Mathlib.Omega.{arith}
use Rattle.plan_format.specs.Format.{node_count, parent_of}
use Rattle.plan_check.proofs.Accepted.{Clean}
use Rattle.run_state.proofs.Passed.{has_room}
use Rattle.run_progress.proofs.Pass.{none_yet, part_le, own, all_counted, parent_small, counts, passes}
use Rattle.run_progress.proofs.children.Goals as goal
use Rattle.run_progress.proofs.children.Goals.{After-from-g, Start}

plan_clean : (c : Start) → Clean c.args.plan.now
plan_clean c = (has_room _ _ c.requires).plan

pub nodes-c-requires : goal.nodes-c-requires
nodes-c-requires c = (plan_clean (goal.at.nodes-c-requires c).Start).fits.limits.long

pub loop-c-init : goal.loop-c-init
loop-c-init c =
    let e : node_count c.args.plan.now - c.nodes-c.result ≡ 0 = omega arith in (
      omega (arith, (plan_clean (goal.at.loop-c-init c).Start).fits.limits.some_node),
      rw e (none_yet _ _ _ _ (zeros NODES)),
    )

pub parent-requires : goal.parent-requires
parent-requires c = (omega arith, (plan_clean (goal.at.parent-requires c).Start).fits)

-- the parent of this turn's child
parent_is : (c : After-from-g) → c.from-g.result ≡ parent_of c.args.plan.now (c.loop-c.c - 1)
parent_is c = c.from-g.ensures ∙ c.parent.ensures

parent_below : (c : After-from-g) → c.from-g.result < 128
parent_below c =
    parent_small c.args.tally _ _ c.requires (node_count c.args.plan.now - c.loop-c.c) _ c.from-g.result (omega arith)
    (omega arith) (parent_is c)

pub is_counted-requires : goal.is_counted-requires
is_counted-requires c = (
  omega arith,
  (
    c.requires,
    c.loop-c.invariant.1.1 _ (omega (arith, (plan_clean (goal.at.is_counted-requires c).Start).fits.limits.nodes))
        ∙ own c.args.tally _ _ c.requires _ _ (omega arith) (omega arith),
  ),
)

pub bounds-table-g : goal.bounds-table-g
bounds-table-g c = parent_below (goal.at.bounds-table-g c).After-from-g

pub bounds-table-g-then-is_counted : goal.bounds-table-g-then-is_counted
bounds-table-g-then-is_counted c = parent_below (goal.at.bounds-table-g-then-is_counted c).After-from-g

pub overflow_add-table : goal.overflow_add-table
overflow_add-table c =
    omega (
      arith,
      c.loop-c.invariant.1.1 _ (parent_below (goal.at.overflow_add-table c).After-from-g),
      part_le c.args.tally c.args.plan.now c.args.state.now (node_count c.args.plan.now - c.loop-c.c) c.from-g.result,
      (plan_clean (goal.at.overflow_add-table c).Start).fits.limits.nodes,
    )

pub loop-c-preserved-then-is_counted : goal.loop-c-preserved-then-is_counted
loop-c-preserved-then-is_counted c =
    let n = node_count c.args.plan.now in
    let e : n - (c.loop-c.c - 1) ≡ n - c.loop-c.c + 1 = omega arith in (
      omega arith,
      rw e (counts c.args.tally _ _ c.requires (n - c.loop-c.c) _ c.from-g.result (omega arith) (omega arith)
          (parent_is (goal.at.loop-c-preserved-then-is_counted c).After-from-g) c.loop-c.table _ c.loop-c.invariant.1
          (sym c.is_counted.ensures ∙ c.if-is_counted.true) refl),
    )

pub loop-c-preserved : goal.loop-c-preserved
loop-c-preserved c =
    let n = node_count c.args.plan.now in
    let e : n - (c.loop-c.c - 1) ≡ n - c.loop-c.c + 1 = omega arith in (
      omega arith,
      rw e (passes c.args.tally _ _ c.requires (n - c.loop-c.c) _ c.from-g.result (omega arith) (omega arith)
          (parent_is (goal.at.loop-c-preserved c).After-from-g) c.loop-c.table _ c.loop-c.invariant.1
          (sym c.is_counted.ensures ∙ c.if-is_counted.false) refl),
    )

pub returns : goal.returns
returns c = (
  c.loop-c.invariant.1.0,
  λ g h. c.loop-c.invariant.1.1 g h ∙ all_counted c.args.tally _ _ c.requires _ g (omega arith),
)
