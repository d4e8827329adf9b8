-- `write_row` meets its contract: the words below k are written, and no other row is changed. Assumes nothing.
use mathlib.Core.Path.{refl}
use native.Mathlib.Omega.{arith}
use borrow.Author.Rules.{rules}
use Rattle.marks_row.proofs.write_row.Goals as goal

pub loop-k-init : goal.loop-k-init
loop-k-init c = (search rules, (λ j l. absurd (omega arith), λ d j l n. refl))

pub returns : goal.returns
returns c = record {
  long = c.loop-k.invariant.0;
  here = λ j h. c.loop-k.invariant.1.0 j (omega arith);
  there = c.loop-k.invariant.1.1;
}
