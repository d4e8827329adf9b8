-- `clobbering_pair` meets its contract: no pair passed so far clobbers a wanted literal. Assumes nothing.
use mathlib.Core.Path.{◌≡◌}
use Rattle.std.specs.declared.option.Option.TheVariants.{None}
use Rattle.marks_may_pairs.specs.Search.{SearchedTo}
use Rattle.marks_may_pairs.proofs.clobbering_pair.Given as goal

abbrev pub invariant-loop-j : goal.invariant-loop-j
invariant-loop-j l = (l.found ≡ None) × SearchedTo l.kids l.segment l.order l.rows l.wanted l.i l.j

abbrev pub invariant-search : goal.invariant-search
invariant-search l = (l.found ≡ None) × SearchedTo l.kids l.segment l.order l.rows l.wanted l.i l.first
