-- `run_state::nodes_bad` meets its contract. Assumes nothing.
use mathlib.Core.Path.{ap, ◌∙◌}
use Prim.Native.Nat.{ℕ}
use Rattle.std.proofs.Common.{rules, refl}
use borrow.Author.Tests.{tests}
use Rattle.runs.specs.Searches.{any_below}
use Rattle.searches.proofs.Any.{any_numbers}
use Rattle.run_state.specs.Inner.{bad_node_in}
use Rattle.run_state.proofs.nodes_bad.Goals as goal

pub returns : goal.returns
returns c =
    let p = bad_node_in c.args.plan.now c.args.standing.now c.args.state.now in
    any_numbers _ p refl c.any.ensures.ran (λ x b q k. search (rules, tests))
    ∙ ap (λ (n : ℕ). any_below n p) c.nodes.ensures
