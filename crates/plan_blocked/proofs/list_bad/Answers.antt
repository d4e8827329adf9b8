-- `plan_blocked::list_bad` meets its contract. Assumes nothing.
use Rattle.std.proofs.Common.{rules}
use borrow.Author.Tests.{tests}
use mathlib.Core.Path.{sym, ◌∙◌}
use Rattle.plan_check.specs.Meaning.{plan_of}
use Rattle.runs.specs.Model.Blocked.{unblockable_b}
use Rattle.searches.proofs.Any.{any_listed}
use Rattle.plan_blocked.proofs.Listed.{rising_28, falling_28}
use Rattle.plan_blocked.proofs.list_bad.Goals as goal

pub returns-then-not-rises : goal.returns-then-not-rises
returns-then-not-rises c =
    cc (c.if-not-rises.true, falling_28 _ _ (sym c.rises.ensures ∙ c.if-not-rises.true))

pub returns-else-not-rises : goal.returns-else-not-rises
returns-else-not-rises c =
    any_listed _ (unblockable_b (plan_of c.args.plan.now)) c.iter.ensures.rest c.any.ensures.ran
    (λ x b q k. search (rules, tests))
    ∙ rising_28 _ _ (sym c.rises.ensures ∙ c.if-not-rises.false)
