-- `first_order` meets its contract: the earlier nodes of the orders rise. Assumes nothing.
use Rattle.std.proofs.Common.{rules, ltb}
use Rattle.std.proofs.lemmas.List.Sorted.{IsPartitionPoint-from_clause, IsPartitionedBy-ltb}
use Rattle.plan_check.proofs.Accepted.{clean}
use Rattle.table_orders.proofs.Chains.{sorted}
use Rattle.wait_group.proofs.Orders.{earlier_rise, first_found}
use Rattle.wait_group.proofs.first_order.Goals as goal

pub earlier_nodes-requires : goal.earlier_nodes-requires
earlier_nodes-requires c = (clean _ c.requires).fits

pub returns : goal.returns
returns c =
    let e = c.earlier_nodes.ensures in
    let rise = earlier_rise _ e.long e.each (sorted _ (clean _ c.requires)) in
    first_found _ e.long e.each c.partition_point.ensures.bound
    (IsPartitionPoint-from_clause (λ x. ltb x c.args.c) _ _ c.partition_point.ensures.partitioned
    (IsPartitionedBy-ltb (λ x. x) _ c.args.c rise) (λ a r q k. search rules))
