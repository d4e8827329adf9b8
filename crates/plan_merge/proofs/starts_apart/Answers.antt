-- `starts_apart` meets its contract. Assumes nothing.
use Rattle.std.proofs.Common.{rules, refl}
use borrow.Author.Tests.{tests}
use mathlib.Core.Bool.{beq, not}
use Rattle.searches.proofs.Any.{any_numbers}
use Rattle.plan_format.specs.Format.{start_flag}
use Rattle.plan_merge.specs.Model.{refused34}
use Rattle.plan_merge.proofs.starts_apart.Goals as goal

pub flags-requires : goal.flags-requires
flags-requires c = c.requires.0.limits.long

pub flags-requires-2 : goal.flags-requires-2
flags-requires-2 c = c.requires.1.limits.long

pub returns : goal.returns
unfolding refused34
returns c =
    rw (← c.flags.ensures, ← c.flags-2.ensures, ← c.min-shared.ensures)
    (any_numbers _ (λ f. not (beq (start_flag c.args.first.now f) (start_flag c.args.second.now f))) refl
    c.any.ensures.ran (λ x b q k. search (rules, tests)))
