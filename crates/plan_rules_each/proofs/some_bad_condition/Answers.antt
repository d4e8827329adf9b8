-- `plan_rules_each::some_bad_condition` meets its contract. Assumes nothing.
use Rattle.std.proofs.Common.{rules, refl, sym}
use borrow.Author.Tests.{tests}
use Rattle.plan_rules.specs.Rules.{cause9, bad_condition}
use Rattle.searches.proofs.Any.{any_numbers}
use Rattle.plan_rules_each.proofs.some_bad_condition.Goals as goal

pub returns : goal.returns
unfolding cause9
returns c = rw (sym c.conditions.ensures)
    (any_numbers _ (bad_condition c.args.plan.now) refl c.any.ensures.ran (λ x b q k. search (rules, tests)))
