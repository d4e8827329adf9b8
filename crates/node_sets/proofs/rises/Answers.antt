-- `node_sets::rises` meets its contract. Assumes nothing.
use Rattle.std.proofs.Common.{rules}
use lib.Dec.{ltb}
use Rattle.std.proofs.lemmas.Fn.{always_returns_same}
use Rattle.node_sets.proofs.Lists.{rising_answer}
use Rattle.node_sets.proofs.rises.Goals as goal

pub returns : goal.returns
returns c = rising_answer _ _ (c.is_sorted_by.ensures.cases ltb (always_returns_same _ _ _ (λ a r f e. search rules)))
