-- `passing` meets its contract. Assumes nothing.
use Rattle.tables.proofs.Turns.{pair_small}
use Rattle.marks_between.proofs.Passed.{part_of, parts, passing_says}
use native.Mathlib.Omega.{arith}
use Rattle.marks_between.proofs.passing.Goals as goal

pub passing_part-flags-requires : goal.passing_part-flags-requires
passing_part-flags-requires c =
    let j = c.requires.other in (
      part_of c.requires.segment (omega (arith, j.low)) (omega (arith, j.high)) (omega arith),
      pair_small c.requires c.from.ensures,
    )

pub passing_part-requires : goal.passing_part-requires
passing_part-requires c =
    let j = c.requires.other in (
      part_of c.requires.segment (omega arith) (omega (arith, j.low)) (omega (arith, j.high)),
      pair_small c.requires c.from.ensures,
    )

pub returns : goal.returns
returns c =
    let j = c.requires.other in
    let e = c.from.ensures in
    passing_says c.args.given.always (parts (omega (arith, j.low)) (omega (arith, j.high))
    (rw e at c.passing_part-flags.ensures) (rw e at c.passing_part.ensures))
