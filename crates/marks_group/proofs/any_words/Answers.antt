-- `any_words` meets its contract. Assumes nothing.
use mathlib.Core.Path.{◌≡◌, sym, ap, ◌∙◌}
use native.Mathlib.Omega.{arith}
use Rattle.runs.specs.Plan.{optional}
use Rattle.runs.specs.Numbers.{kind_number}
use Rattle.runs.proofs.Plan.Numbers.{kind_inj}
use Rattle.runs.proofs.Execution.Completeness.{picks_other}
use Rattle.marks_group.proofs.Merge.{joined_none, joined_more, unmasked, child_row, any_row, optional_row}
use Rattle.marks_group.proofs.any_words.Goals as goal

pub loop-i-init : goal.loop-i-init
loop-i-init c = λ p n g. joined_none c.start_words-words.ensures

pub loop-i-preserved : goal.loop-i-preserved
loop-i-preserved c =
    let low = c.loop-i.auto.i in
    let e = c.from.ensures in
    λ p n g. joined_more e low c.merged-next.ensures
    (child_row g e (record { low = low; high = c.loop-i-test.true })).says unmasked (c.loop-i.invariant p n g)

pub returns-then-kind : goal.returns-then-kind
returns-then-kind c =
    let last : c.loop-i.i ≡ c.args.segment.end = omega arith in
    λ p n g m e. optional_row g (kind_inj (p.tree.kind n) optional (sym e ∙ c.if-kind.true))
    (rw last at (c.loop-i.invariant p n g)) c.with_empty.ensures

pub returns-else-kind : goal.returns-else-kind
returns-else-kind c =
    let last : c.loop-i.i ≡ c.args.segment.end = omega arith in
    λ p n g m e. any_row g
    (picks_other (p.tree.kind n) (λ q. c.if-kind.false (e ∙ ap kind_number q)) m)
    (rw last at (c.loop-i.invariant p n g))
