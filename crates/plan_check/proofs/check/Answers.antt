-- `plan_check::check` meets its contract. Assumes nothing.
use native.Mathlib.Omega.{arith}
use Rattle.plan_check.proofs.Chain.{first, second, third, rest}
use Rattle.plan_rules.proofs.Causes.{limits, whole}
use Rattle.plan_rules.specs.Rules.{cause2}
use Rattle.plan_format.specs.Whole.{Limits}
use mathlib.Core.Bool.{false}
use mathlib.Core.Path.{◌≡◌, sym, ◌∙◌}
use Rattle.plan_check.proofs.check.Goals as goal
use Rattle.plan_check.proofs.check.Goals.{Else-sizes_bad}

in_limits : (c : Else-sizes_bad) → cause2 c.args.plan.now ≡ false
in_limits c = sym c.sizes_bad.ensures ∙ c.if-sizes_bad.false

sized : (c : Else-sizes_bad) → Limits c.args.plan.now
sized c = limits c.args.plan.now (omega arith) (in_limits c)

pub returns-then-plan-lt16 : goal.returns-then-plan-lt16
returns-then-plan-lt16 c = first c.args.plan.now c.if-plan-lt16.true

pub returns-then-sizes_bad : goal.returns-then-sizes_bad
returns-then-sizes_bad c = second c.args.plan.now (omega arith)
    (sym c.sizes_bad.ensures ∙ c.if-sizes_bad.true)

pub whole_length-requires : goal.whole_length-requires
whole_length-requires c = sized (goal.at.whole_length-requires c).Else-sizes_bad

pub returns-then-plan-whole_length : goal.returns-then-plan-whole_length
returns-then-plan-whole_length c =
    let w = (goal.at.returns-then-plan-whole_length c).Else-sizes_bad in
    third c.args.plan.now (sized w).long (in_limits w) (λ e. c.if-plan-whole_length.true (omega arith))

pub check_nodes-requires : goal.check_nodes-requires
check_nodes-requires c = whole c.args.plan.now
    (sized (goal.at.check_nodes-requires c).Else-sizes_bad) (omega arith)

pub returns : goal.returns
returns c =
    let w = (goal.at.returns c).Else-sizes_bad in
    c.check_nodes.ensures ∙ rest c.args.plan.now (sized w).long (in_limits w) (omega arith)

pub sizes_bad-requires : goal.sizes_bad-requires
sizes_bad-requires c = c.if-plan-lt16.false
