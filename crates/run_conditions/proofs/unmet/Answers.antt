-- `run_conditions::unmet` meets its contract. Assumes nothing.
use mathlib.Core.Path.{refl}
use borrow.Author.Rules.{rules}
use borrow.Author.Tests.{tests}
use Rattle.plan_check.proofs.Accepted.{clean}
use Rattle.node_sets.specs.Sets.{marked}
use Rattle.searches.proofs.Any.{any_numbers}
use Rattle.run_conditions.specs.Conditions.{unmet_at}
use Rattle.run_conditions.proofs.unmet.Goals as goal

pub conditions-requires : goal.conditions-requires
conditions-requires c = (clean _ c.requires).fits.limits.long

pub returns : goal.returns
returns c =
    let a = c.args in
    rw (← c.conditions.ensures)
    (any_numbers _ (unmet_at a.plan.now a.place (marked a.tasks.now) a.flags.bytes) refl c.any.ensures.ran
    (λ x b q k. search (rules, tests)))
