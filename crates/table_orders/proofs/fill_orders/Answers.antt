-- `fill_orders` meets its contract: the table has the first i orders, those between nodes that stand. Assumes nothing.
use mathlib.Core.Path.{◌≡◌, ◌∙◌}
use Rattle.plan_format.specs.Format.{order_count}
use Rattle.plan_check.proofs.Accepted.{clean}
use Rattle.table_orders.proofs.Chains.{sorted}
use Rattle.table_orders.proofs.Table.{tabled_none}
use Rattle.table_orders.proofs.Among.{among_more, among_skip, among_all}
use native.Mathlib.Omega.{arith}
use Rattle.table_orders.proofs.fill_orders.Goals as goal
use Rattle.table_orders.proofs.fill_orders.Goals.{then-both_stand, else-both_stand}

pub orders-i-end-requires : goal.orders-i-end-requires
orders-i-end-requires c = (clean _ c.requires.0).fits.limits.long

pub loop-i-init : goal.loop-i-init
loop-i-init c = (omega arith, tabled_none c.requires.1)

pub earlier-requires : goal.earlier-requires
earlier-requires c = (omega arith, (clean _ c.requires.0).fits)

pub later-requires : goal.later-requires
later-requires c = (omega arith, (clean _ c.requires.0).fits)

pub both_stand-requires : goal.both_stand-requires
both_stand-requires c =
    let s = sorted _ (clean _ c.requires.0) in
    let a = c.from-a.ensures ∙ c.earlier.ensures in
    let b = c.from-b.ensures ∙ c.later.ensures in
    let m = s.small c.loop-i.i (omega arith) in
    (omega (arith, a, m, s.lower c.loop-i.i (omega arith)), omega (arith, b, m))

pub link_all-requires : goal.link_all-requires
link_all-requires c =
    let s = sorted _ (clean _ c.requires.0) in
    let a = c.from-a.ensures ∙ c.earlier.ensures in
    let b = c.from-b.ensures ∙ c.later.ensures in (
      omega (arith, a, b, s.lower c.loop-i.i (omega arith)),
      omega (arith, b, s.small c.loop-i.i (omega arith)),
      c.loop-i.invariant.1.long,
    )

pub loop-i-preserved : goal.loop-i-preserved
loop-i-preserved c =
    let s = sorted _ (clean _ c.requires.0) in
    let a = c.from-a.ensures ∙ c.earlier.ensures in
    let b = c.from-b.ensures ∙ c.later.ensures in
    let e = c.both_stand.ensures in
    let t = c.loop-i.invariant.1 in (
      omega arith,
      elim c.if-both_stand.branch [
        | then-both_stand w ↦ among_more _ a b e t s (omega arith) w.order-is w.if-both_stand.true w.link_all.ensures
        | else-both_stand w ↦ among_skip _ a b e t w.order-is w.if-both_stand.false
      ],
    )

pub returns : goal.returns
returns c =
    let e : c.loop-i.i ≡ order_count c.args.plan.now = omega arith in
    among_all _ c.requires.0 (rw e at c.loop-i.invariant.1)
