-- `plan_rules_later::both_signs` meets its contract. Assumes nothing.
use mathlib.Core.Path.{◌∙◌}
use Rattle.std.proofs.Common.{rules}
use Rattle.plan_rules_later.specs.Passes.{sign_step}
use Rattle.plan_rules_later.proofs.Found.{signs_in_order, signs}
use Rattle.plan_rules_later.proofs.both_signs.Goals as goal

pub returns : goal.returns
returns c =
    let b = c.args.plan.now in
    let f = rw c.conditions.ensures at c.refuses.ensures in
    f (sign_step b) (λ i x l p. search rules) (signs_in_order b c.requires.1.1) ∙ signs b c.requires.1.1
