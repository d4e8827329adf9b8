-- `root_child` meets its contract. Assumes nothing.
use borrow.Author.Tests.{eq-eqb, ne_eqb}
use Rattle.plan_check.proofs.Accepted.{clean}
use Rattle.member_list.proofs.Bytes.{root_child_is}
use Rattle.member_list.proofs.root_child.Goals as goal

pub parent-requires : goal.parent-requires
parent-requires c = (c.requires.1, (clean _ c.requires.0).fits)

pub returns-then-i-ne0 : goal.returns-then-i-ne0
returns-then-i-ne0 c = rw c.parent.ensures (rw (ne_eqb _ 0 c.if-i-ne0.true) at (root_child_is _ _ c.requires.1))

pub returns-else-i-ne0 : goal.returns-else-i-ne0
returns-else-i-ne0 c = let e = eq-eqb c.args.i 0 c.if-i-ne0.false in rw e (rw e at (root_child_is _ _ c.requires.1))
