-- `run_conditions::inc_broken` meets its contract. Assumes nothing.
use mathlib.Core.Path.{refl}
use borrow.Author.Rules.{rules}
use borrow.Author.Tests.{tests}
use Rattle.run_state.proofs.Passed.{has_room}
use Rattle.node_sets.specs.Sets.{marked}
use Rattle.searches.proofs.Any.{any_numbers}
use Rattle.run_conditions.specs.Conditions.{broken_at}
use Rattle.run_conditions.proofs.inc_broken.Goals as goal

pub with_literals-clear-requires : goal.with_literals-clear-requires
with_literals-clear-requires c = (has_room _ _ c.requires).accepted

pub with_literals-set-requires : goal.with_literals-set-requires
with_literals-set-requires c = (has_room _ _ c.requires).accepted

pub conditions-requires : goal.conditions-requires
conditions-requires c = (has_room _ _ c.requires).plan.fits.limits.long

pub returns : goal.returns
returns c =
    let a = c.args in
    rw (
      ← c.conditions.ensures,
      ← c.all.ensures,
      ← c.all-2.ensures,
      ← c.with_literals-clear.ensures,
      ← c.with_literals-set.ensures,
    )
    (any_numbers _
    (broken_at a.plan.now a.state.now c.with_literals-clear.result.bytes c.with_literals-set.result.bytes
    (marked a.tasks.now)) refl c.any.ensures.ran (λ x b q k. search (rules, tests)))
