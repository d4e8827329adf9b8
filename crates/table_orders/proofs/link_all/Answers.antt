-- `link_all` meets its contract: what comes before a below c stands before b, and at the end a does. Assumes nothing.
use Rattle.table_orders.proofs.Links.{within_none, within_all}
use native.Mathlib.Omega.{arith}
use Rattle.table_orders.proofs.link_all.Goals as goal

pub loop-c-init : goal.loop-c-init
loop-c-init c = (omega arith, within_none _ c.requires.2)

pub link-requires : goal.link-requires
link-requires c = (omega arith, omega arith, c.loop-c.invariant.1.long)

pub link-requires-2 : goal.link-requires-2
link-requires-2 c = (omega arith, omega arith, c.loop-c.invariant.1.long)

pub returns : goal.returns
returns c =
    within_all c.requires.0 c.requires.1 (omega arith) c.loop-c.invariant.1 c.link-2.ensures
