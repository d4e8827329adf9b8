-- `started` meets its contract. Assumes nothing.
use Rattle.std.proofs.Common.{◌∙◌, rules}
use borrow.Author.Tests.{tests}
use native.Mathlib.Omega.{arith}
use Rattle.std.proofs.lemmas.Iterator.{YieldsList-from_range}
use Rattle.std.proofs.lemmas.Iterator.Consumers.{YieldsList-from_filter, count_from_yields_List}
use Rattle.run_starts.specs.Starts.{started_in, started_count}
use Rattle.run_starts.proofs.Counts.{counted}
use Rattle.run_starts.proofs.started.Goals as goal

pub returns : goal.returns
unfolding started_count
returns c =
    let q = started_in c.args.plan.now c.args.state.now in
    count_from_yields_List c.filter.result c.count.result c.count.ensures.ran
    (YieldsList-from_filter _ q
    (YieldsList-from_range 0 c.nodes.result c.nodes.result (search rules) (omega arith))
    c.filter.ensures.closure (λ x r p k. search (rules, tests)))
    ∙ rw c.nodes.ensures (counted _ q)
