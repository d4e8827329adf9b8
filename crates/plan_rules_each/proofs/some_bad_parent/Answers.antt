-- `plan_rules_each::some_bad_parent` meets its contract. Assumes nothing.
use Rattle.std.proofs.Common.{rules, refl, sym}
use borrow.Author.Tests.{tests}
use Rattle.plan_rules.specs.Rules.{cause7, bad_parent}
use Rattle.searches.proofs.Any.{any_numbers}
use Rattle.plan_rules_each.proofs.some_bad_parent.Goals as goal

pub returns : goal.returns
unfolding cause7
returns c = rw (sym c.nodes.ensures)
    (any_numbers _ (bad_parent c.args.plan.now) refl c.any.ensures.ran (λ x b q k. search (rules, tests)))
