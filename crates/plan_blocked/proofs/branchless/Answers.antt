-- `plan_blocked::branchless` meets its contract. Assumes nothing.
use Rattle.std.proofs.Common.{rules}
use borrow.Author.Tests.{tests}
use Rattle.std.proofs.lemmas.Iterator.{YieldsList-from_slice}
use Rattle.std.proofs.lemmas.Iterator.Adapters.{serves_from_places}
use Rattle.searches.proofs.Any.{any_listed, listed_at}
use Rattle.plan_blocked.specs.Branches.{emptied_at}
use Rattle.plan_blocked.proofs.branchless.Goals as goal

pub any-requires-clause-callable : goal.any-requires-clause-callable
any-requires-clause-callable c = serves_from_places (YieldsList-from_slice c.args.list.now c.iter.ensures.rest)
    (λ x q k. search (rules, tests)) (λ x k l e.
    let h = c.requires.1 x.now (listed_at _ k l e) in
    let ok = c.requires.0 in
    search rules)

pub returns : goal.returns
returns c = any_listed _ (emptied_at c.args.plan.now c.args.standing.now c.args.marks.now) c.iter.ensures.rest
    c.any.ensures.ran (λ x b q k. search (rules, tests))
