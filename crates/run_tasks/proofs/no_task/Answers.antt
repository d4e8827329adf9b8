-- `run_tasks::no_task` meets its contract. Assumes nothing.
use mathlib.Core.Bool.{not}
use borrow.Author.Tests.{tests}
use Rattle.std.proofs.Common.{rules}
use Rattle.plan_format.specs.Format.{is_kind}
use Rattle.searches.proofs.Any.{any_listed}
use Rattle.run_tasks.proofs.no_task.Goals as goal

pub returns : goal.returns
returns c =
    any_listed _ (λ t. not (is_kind c.args.plan.now t 0)) (search rules) c.any.ensures.ran
    (λ x b q k. search (rules, tests))
