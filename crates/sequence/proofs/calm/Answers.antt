-- `calm` meets its contract. Assumes nothing.
use borrow.Author.Rules.{rules}
use borrow.Author.Tests.{tests}
use Rattle.std.proofs.lemmas.Iterator.{YieldsList-from_slice, cases_from_all}
use Rattle.std.proofs.lemmas.Iterator.Adapters.{serves_from_places}
use Rattle.sequence.proofs.Clobbers.{Quiet, kids_in, kid_below, calm_is}
use Rattle.sequence.proofs.calm.Goals as goal

pub all-requires-clause-callable : goal.all-requires-clause-callable
all-requires-clause-callable c =
    serves_from_places (YieldsList-from_slice (kids_in c.args.kids.now c.args.segment) c.iter.ensures.rest)
    (λ x q k. search (rules, tests))
    (λ x k l e. let small = kid_below c.requires.at c.told-kids l e in search rules)

pub returns : goal.returns
returns c =
    calm_is c.requires.at c.told-kids c.fits-rows _ (cases_from_all _ _ _ (Quiet c.args.rows.now)
    (λ x. ¬ Quiet c.args.rows.now x) c.all.ensures.ran
    (YieldsList-from_slice (kids_in c.args.kids.now c.args.segment) c.iter.ensures.rest)
    (λ x q k. search (rules, tests)) (λ x q k. search (rules, tests)))
