-- `start_word` meets its contract: the word of the flags below f. Assumes nothing.
use Prim.Native.Nat.{ℕ, ◌<◌}
use Rattle.base.specs.Words.{Says}
use Rattle.verdict.proofs.Start.{SetBelow}
use Rattle.verdict.proofs.start_word.Given as goal

abbrev pub invariant-loop-f : goal.invariant-loop-f
invariant-loop-f l = (g : ℕ) → g < 64 → Says l.word g (SetBelow l.plan l.f g)
