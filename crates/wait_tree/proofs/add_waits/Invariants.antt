-- `add_waits` meets its contract: the longest waits below c, the waits within their groups from c on. Assumes nothing.
use Rattle.wait_tree.proofs.Down.{Down}
use Rattle.wait_tree.proofs.add_waits.Given as goal

abbrev pub invariant-loop-c : goal.invariant-loop-c
invariant-loop-c l = Down l.plan l.waits l.c
