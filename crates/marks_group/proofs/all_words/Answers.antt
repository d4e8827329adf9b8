-- `all_words` meets its contract. Assumes nothing.
use mathlib.Core.Path.{◌≡◌}
use native.Mathlib.Omega.{arith}
use Rattle.base.proofs.Says.{says_eq}
use Rattle.tables.specs.Segments.{Position}
use Rattle.tables.proofs.Segments.{listed}
use Rattle.marks_group.proofs.Masks.{masked}
use Rattle.marks_group.proofs.Merge.{joined_none, joined_more, child_row, all_row}
use Rattle.marks_group.proofs.all_words.Goals as goal

pub loop-i-init : goal.loop-i-init
loop-i-init c = λ p n g o. joined_none c.start_words-words.ensures

pub loop-i-preserved : goal.loop-i-preserved
loop-i-preserved c =
    let low = c.loop-i.auto.i in
    let at : Position c.args.segment c.loop-i.i = record { low = low; high = c.loop-i-test.true } in
    let e = c.from-child.ensures in
    λ p n g o. joined_more e low c.merged-next.ensures (child_row g e at).says
    (λ k f m. says_eq (c.mask_words-mask.ensures.is k)
    (masked (c.all_siblings.ensures p n g o (listed g.listed e at)) k f m))
    (c.loop-i.invariant p n g o)

pub returns : goal.returns
returns c =
    let last : c.loop-i.i ≡ c.args.segment.end = omega arith in
    λ p n g o kn. all_row g kn (rw last at (c.loop-i.invariant p n g o))
