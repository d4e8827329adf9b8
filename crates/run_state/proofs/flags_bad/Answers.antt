-- `run_state::flags_bad` meets its contract. Assumes nothing.
use mathlib.Core.Path.{◌∙◌}
use mathlib.Core.Bool.{◌&&◌}
use lib.Dec.{leb}
use Rattle.std.proofs.Common.{rules, refl}
use borrow.Author.Tests.{tests}
use Rattle.searches.proofs.Any.{any_numbers}
use Rattle.runs.proofs.Searches.{some_same}
use Rattle.run_flags.specs.Flags.{flag_in}
use Rattle.run_state.proofs.Refused.{flag_bad}
use Rattle.run_state.proofs.flags_bad.Goals as goal

pub returns : goal.returns
returns c =
    any_numbers _ (λ f. leb c.flags-v.result f && flag_in c.load-held.result.bytes f) refl c.any.ensures.ran
    (λ x b q k. search (rules, tests))
    ∙ some_same 64 _ _ (λ f l. flag_bad _ _ _ _ _ _ c.flags-v.ensures c.load-held.ensures refl l)
