-- `narrowed` meets its contract. Assumes nothing.
use mathlib.Core.Path.{refl}
use Rattle.marks_siblings.proofs.Sibling.{narrows_taken}
use Rattle.marks_siblings.proofs.narrowed.Goals as goal

pub returns-then-applies : goal.returns-then-applies
returns-then-applies c = narrows_taken (rw c.if-applies.true tt) refl refl
