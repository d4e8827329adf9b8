-- `plan_rules_each::some_orders_fall` meets its contract. Assumes nothing.
use Rattle.std.proofs.Common.{rules, ◌≡◌, ◌-◌, refl, sym}
use borrow.Author.Tests.{tests}
use Rattle.plan_format.specs.Format.{earlier_of, later_of}
use Rattle.plan_rules.specs.Rules.{cause14, not_rising}
use Rattle.searches.proofs.Any.{any_numbers}
use Rattle.plan_rules_each.proofs.some_orders_fall.Goals as goal

pub returns : goal.returns
unfolding cause14
returns c =
    let e : c.saturating_sub.result ≡ c.orders.result - 1 = search rules in
    rw (sym c.orders.ensures, sym e)
    (any_numbers _ (not_rising (earlier_of c.args.plan.now) (later_of c.args.plan.now)) refl c.any.ensures.ran
    (λ x b q k. search (rules, tests)))
