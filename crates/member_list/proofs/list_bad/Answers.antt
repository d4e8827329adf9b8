-- `list_bad` meets its contract. Assumes nothing.
use mathlib.Core.Path.{refl, sym}
use borrow.Author.Rules.{rules}
use borrow.Author.Tests.{tests}
use Rattle.plan_check.proofs.Accepted.{clean}
use Rattle.searches.proofs.Any.{any_numbers}
use Rattle.member_list.specs.Model.{bad_member}
use Rattle.member_list.proofs.list_bad.Goals as goal

pub nodes-requires : goal.nodes-requires
nodes-requires c = (clean _ c.requires.0).fits.limits.long

pub returns : goal.returns
returns c =
    rw (sym c.nodes.ensures) (any_numbers _ (bad_member c.args.plan.now c.args.members.now) refl c.any.ensures.ran
    (λ x b q k. search (rules, tests)))
