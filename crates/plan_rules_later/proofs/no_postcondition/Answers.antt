-- `plan_rules_later::no_postcondition` meets its contract. Assumes nothing.
use mathlib.Core.Path.{◌∙◌}
use Rattle.std.proofs.Common.{rules}
use Rattle.plan_rules_later.specs.Passes.{post_step}
use Rattle.plan_rules_later.proofs.Found.{posts_in_order, posts}
use Rattle.plan_rules_later.proofs.no_postcondition.Goals as goal

pub returns : goal.returns
returns c =
    let b = c.args.plan.now in
    let f = rw c.conditions.ensures at c.refuses.ensures in
    f (post_step b) (λ i x l p. search rules) (posts_in_order b c.requires.1.1) ∙ posts b c.requires.1.1
