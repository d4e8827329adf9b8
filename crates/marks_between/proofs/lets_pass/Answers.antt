-- `lets_pass` meets its contract. Assumes nothing.
use Rattle.marks_siblings.proofs.Sibling.{neither}
use Rattle.marks_between.proofs.lets_pass.Goals as goal

pub returns-then-always : goal.returns-then-always
returns-then-always c = λ f l. rw (c.if-always.true, c.neither.ensures) (neither _ _ f l)
