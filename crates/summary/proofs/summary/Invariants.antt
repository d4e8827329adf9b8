-- `summary` meets its contract: the bytes below i are written. Assumes nothing.
use mathlib.Core.Path.{◌≡◌}
use Rattle.base.specs.Answers.{overlay}
use Rattle.summary.specs.Model.{summary_byte}
use Rattle.summary.proofs.summary.Given as goal

abbrev pub invariant-loop-i : goal.invariant-loop-i
invariant-loop-i l = l.out ≡ overlay (summary_byte l.plan l.blocked l.node) l.i l.initial.out
