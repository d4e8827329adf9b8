-- `plan_rules_each::some_bad_start` meets its contract. Assumes nothing.
use Rattle.std.proofs.Common.{rules, refl}
use borrow.Author.Tests.{tests}
use Rattle.plan_rules.specs.Rules.{cause4, bad_start}
use Rattle.searches.proofs.Any.{any_numbers}
use Rattle.plan_rules_each.proofs.some_bad_start.Goals as goal

pub returns : goal.returns
unfolding cause4
returns c = any_numbers _ (bad_start c.args.plan.now) refl c.any.ensures.ran (λ x b q k. search (rules, tests))
