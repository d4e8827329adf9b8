-- `run_tasks::not_running` meets its contract. Assumes nothing.
use mathlib.Core.Bool.{not}
use lib.Dec.{eqb}
use borrow.Author.Rules.{rules}
use borrow.Author.Tests.{tests}
use Rattle.std.proofs.lemmas.Iterator.{YieldsList-from_slice}
use Rattle.std.proofs.lemmas.Iterator.Adapters.{serves_from_places}
use Rattle.run_starts.specs.Starts.{node_byte}
use Rattle.searches.proofs.Any.{any_listed, listed_at}
use Rattle.run_tasks.proofs.not_running.Goals as goal

pub any-requires-clause-callable : goal.any-requires-clause-callable
any-requires-clause-callable c =
    let ts = c.args.tasks.now in
    serves_from_places (YieldsList-from_slice ts (cc)) (λ x q k. search rules) (λ x k l e.
    let h = c.requires x.now (listed_at ts k l e) in
    search rules)

pub returns : goal.returns
unfolding node_byte
returns c =
    any_listed _ (λ t. not (eqb (node_byte c.args.state.now t) 1)) (search rules) c.any.ensures.ran
    (λ x b q k. search (rules, tests))
