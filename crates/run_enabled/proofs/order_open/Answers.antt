-- `run_enabled::order_open` meets its contract. Assumes nothing.
use borrow.Author.Tests.{tests}
use Rattle.std.proofs.Common.{rules, refl}
use Rattle.std.proofs.lemmas.Iterator.{serves_from_Range}
use Rattle.searches.proofs.Any.{any_numbers}
use Rattle.run_state.proofs.Passed.{has_room}
use Rattle.run_enabled.specs.Enabling.{open_at}
use Rattle.run_enabled.proofs.order_open.Goals as goal

pub orders-requires : goal.orders-requires
orders-requires c = (has_room _ _ c.requires.state_value).plan.fits.limits.long

pub any-requires-clause-callable : goal.any-requires-clause-callable
any-requires-clause-callable c = serves_from_Range (λ x q k. search rules) (λ x h l. search rules)

pub returns : goal.returns
returns c = rw c.orders.ensures at
    (any_numbers _ (open_at c.args.plan.now c.args.state.now c.args.marks.now) refl c.any.ensures.ran
    (λ x b q k. search (rules, tests)))
