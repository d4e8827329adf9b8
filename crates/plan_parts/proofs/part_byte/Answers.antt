-- `part_byte` meets its contract. Assumes nothing.
use native.Mathlib.Omega.{arith}
use borrow.Author.Tests.{ne_eqb}
use Rattle.plan_parts.specs.Joined.{parent_under}
use Rattle.plan_parts.proofs.part_byte.Goals as goal

pub overflow_add-result-in-Parent : goal.overflow_add-result-in-Parent
unfolding parent_under
overflow_add-result-in-Parent c =
    let h = rw c.in-Parent.is at c.in-Parent.n-test in
    omega (arith, c.parent.ensures, rw (c.in-Parent.is, ne_eqb c.in-Parent.n 0 h.1) at c.requires.2)

pub returns-in-Parent-eq0 : goal.returns-in-Parent-eq0
unfolding parent_under
returns-in-Parent-eq0 c =
    let h = rw c.in-Parent-eq0.is at c.in-Parent-eq0.field-0-test in
    rw (c.in-Parent-eq0.is, h)

pub returns-in-Parent : goal.returns-in-Parent
unfolding parent_under
returns-in-Parent c =
    let h = rw c.in-Parent.is at c.in-Parent.n-test in
    rw (c.in-Parent.is, ne_eqb c.in-Parent.n 0 h.1) (omega (arith, c.parent.ensures))
