-- `ordinals_bad` meets its contract. Assumes nothing.
use mathlib.Core.Bool.{not}
use Prim.Native.Nat.{suc, ◌+◌, ◌<◌}
use native.Mathlib.Numerals.{add-one}
use lib.ListN.{get_or}
use lib.Dec.{eqb}
use borrow.Author.Tests.{tests}
use Rattle.std.proofs.Common.{rules, refl, ◌∙◌, arith}
use Rattle.std.proofs.lemmas.Iterator.{serves_from_Range}
use Rattle.runs.proofs.Searches.{some_same}
use Rattle.searches.proofs.Any.{any_numbers}
use Rattle.run_starts.specs.Starts.{started_count, holders, misnumbered}
use Rattle.run_starts.proofs.Counts.{started_le}
use Rattle.run_starts.proofs.ordinals_bad.Goals as goal

pub any-requires-clause-callable : goal.any-requires-clause-callable
any-requires-clause-callable c = serves_from_Range (λ x q k. search rules) (λ x h l.
    let few = started_le c.args.plan.now c.args.state.now in
    let below : x + 1 < 129 = omega (arith, c.started-m.ensures, few, c.requires.plan.limits.nodes) in
    search rules)

pub returns : goal.returns
unfolding misnumbered
returns c =
    let b = c.args.plan.now in
    let s = c.args.state.now in
    let table = c.holders-table in
    any_numbers c.started-m.result (λ k. not (eqb (get_or table.result (k + 1) 0) 1)) refl c.any.ensures.ran
    (λ x t q k. search (rules, tests))
    ∙ rw c.started-m.ensures
    (some_same (started_count b s) (λ k. not (eqb (get_or table.result (k + 1) 0) 1))
    (λ k. not (eqb (holders b s (suc k)) 1))
    (λ k l. rw (add-one k, table.ensures.1 (suc k) (omega (arith, started_le b s, c.requires.plan.limits.nodes)))))
