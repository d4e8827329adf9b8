-- `node_sets::mark_all` meets its contract. Assumes nothing.
use mathlib.Core.Path.{ap, sym, ◌∙◌}
use native.Mathlib.Omega.{arith}
use lib.ListN.{length-set}
use Rattle.std.proofs.lemmas.List.{take_all, take_more}
use Rattle.runs.specs.Searches.{listed}
use Rattle.base.proofs.Zeros.{zeros}
use Rattle.node_sets.proofs.Sets.{marked_none, marked_next}
use Rattle.node_sets.proofs.Lists.{among_at}
use Rattle.node_sets.proofs.mark_all.Goals as goal

pub loop-t-init : goal.loop-t-init
loop-t-init c = ((zeros 128).long, marked_none _ (zeros 128))

-- the next one is a node's number
pub bounds-marks-t : goal.bounds-marks-t
bounds-marks-t c = c.requires _ (among_at _ c.loop-t.t-index c.loop-t-test.true)

pub loop-t-preserved : goal.loop-t-preserved
loop-t-preserved c =
    let l = c.loop-t in
    let ts = c.args.list.now in (
      length-set l.marks _ _ ∙ l.invariant.0,
      marked_next l.marks _ _ (omega (arith, c.requires _ (among_at ts l.t-index c.loop-t-test.true), l.invariant.0))
          l.invariant.1
          ∙ ap listed (sym (take_more ts l.t-index 0 c.loop-t-test.true)),
    )

pub returns : goal.returns
returns c = c.loop-t.invariant.1 ∙ ap listed (take_all c.loop-t.t-index c.args.list.now (omega arith))
