-- `plan_rules_each::some_bad_order` meets its contract. Assumes nothing.
use Rattle.std.proofs.Common.{rules, refl, sym}
use borrow.Author.Tests.{tests}
use Rattle.plan_rules.specs.Rules.{cause13, bad_order}
use Rattle.searches.proofs.Any.{any_numbers}
use Rattle.plan_rules_each.proofs.some_bad_order.Goals as goal

pub returns : goal.returns
unfolding cause13
returns c = rw (sym c.orders.ensures)
    (any_numbers _ (bad_order c.args.plan.now) refl c.any.ensures.ran (λ x b q k. search (rules, tests)))
