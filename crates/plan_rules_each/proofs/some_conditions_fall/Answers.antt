-- `plan_rules_each::some_conditions_fall` meets its contract. Assumes nothing.
use Rattle.std.proofs.Common.{rules, ◌≡◌, ◌-◌, refl, sym}
use borrow.Author.Tests.{tests}
use Rattle.plan_format.specs.Format.{cond_node, cond_value}
use Rattle.plan_rules.specs.Rules.{cause10, not_rising}
use Rattle.searches.proofs.Any.{any_numbers}
use Rattle.plan_rules_each.proofs.some_conditions_fall.Goals as goal

pub returns : goal.returns
unfolding cause10
returns c =
    let e : c.saturating_sub.result ≡ c.conditions.result - 1 = search rules in
    rw (sym c.conditions.ensures, sym e)
    (any_numbers _ (not_rising (cond_node c.args.plan.now) (cond_value c.args.plan.now)) refl c.any.ensures.ran
    (λ x b q k. search (rules, tests)))
