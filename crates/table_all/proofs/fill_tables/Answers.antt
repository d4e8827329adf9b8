-- `fill_tables` meets its contract. Assumes nothing.
use native.Mathlib.Omega.{arith}
use Rattle.plan_check.proofs.Accepted.{clean}
use Rattle.table_all.proofs.Drawn.{all_items}
use Rattle.table_all.proofs.Standing.{orders_blocked, left_represented}
use Rattle.table_all.proofs.fill_tables.Goals as goal

pub item_count-requires : goal.item_count-requires
item_count-requires c = (clean _ c.requires.0).fits

pub returns : goal.returns
returns c =
    let i = c.fill_items.ensures in
    let ok = c.requires.0 in
    let t = c.fill_children.ensures in
    let n = c.item_count.ensures in
    let all = all_items _ n in
    record {
      children = t;
      represents = λ S k h. left_represented _ ok S h (i.kinds (omega (arith, all)))
          (i.conditions (omega (arith, all))) t.tree (orders_blocked _ ok S k (i.orders (omega (arith, n))));
    }
