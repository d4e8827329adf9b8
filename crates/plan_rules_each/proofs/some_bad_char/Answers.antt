-- `plan_rules_each::some_bad_char` meets its contract. Assumes nothing.
use Rattle.std.proofs.Common.{rules, refl, sym}
use borrow.Author.Tests.{tests}
use Rattle.plan_rules.specs.Rules.{cause5, bad_char}
use Rattle.searches.proofs.Any.{any_numbers}
use Rattle.plan_rules_each.proofs.some_bad_char.Goals as goal

pub returns : goal.returns
unfolding cause5
returns c = rw (sym c.nodes.ensures)
    (any_numbers _ (bad_char c.args.plan.now) refl c.any.ensures.ran (λ x b q k. search (rules, tests)))
