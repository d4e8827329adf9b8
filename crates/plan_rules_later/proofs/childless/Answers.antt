-- `plan_rules_later::childless` meets its contract. Assumes nothing.
use mathlib.Core.Path.{◌∙◌}
use Rattle.std.proofs.Common.{rules}
use Rattle.plan_rules_later.specs.Passes.{child_step}
use Rattle.plan_rules_later.proofs.Found.{children_in_order, children}
use Rattle.plan_rules_later.proofs.childless.Goals as goal

pub returns : goal.returns
returns c =
    let b = c.args.plan.now in
    let f = rw c.nodes.ensures at c.refuses.ensures in
    f (child_step b) (λ i x l p. search rules) (children_in_order b c.requires.0 c.requires.1)
    ∙ children b c.requires.0 c.requires.1
