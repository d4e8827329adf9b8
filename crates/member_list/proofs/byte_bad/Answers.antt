-- `byte_bad` meets its contract. Assumes nothing.
use borrow.Author.Tests.{lt-ltb, le-ltb, ne_eqb}
use Rattle.member_list.specs.Model.{bad_member}
use Rattle.member_list.proofs.byte_bad.Goals as goal

pub returns-then-byte-gt1 : goal.returns-then-byte-gt1
unfolding bad_member
returns-then-byte-gt1 c = rw (lt-ltb 1 _ c.if-byte-gt1.true)

pub returns-then-byte-eq1 : goal.returns-then-byte-eq1
unfolding bad_member
returns-then-byte-eq1 c = rw (c.if-byte-eq1.true, c.root_child.ensures)

pub returns-else-byte-eq1 : goal.returns-else-byte-eq1
unfolding bad_member
returns-else-byte-eq1 c = rw (le-ltb 1 _ c.if-byte-gt1.false, ne_eqb _ 1 c.if-byte-eq1.false)
