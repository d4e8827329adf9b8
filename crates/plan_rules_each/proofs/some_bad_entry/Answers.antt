-- `plan_rules_each::some_bad_entry` meets its contract. Assumes nothing.
use Rattle.std.proofs.Common.{rules, refl, sym}
use borrow.Author.Tests.{tests}
use Rattle.plan_rules.specs.Rules.{cause6, bad_entry}
use Rattle.searches.proofs.Any.{any_numbers}
use Rattle.plan_rules_each.proofs.some_bad_entry.Goals as goal

pub returns : goal.returns
unfolding cause6
returns c = rw (sym c.nodes.ensures)
    (any_numbers _ (bad_entry c.args.plan.now) refl c.any.ensures.ran (λ x b q k. search (rules, tests)))
