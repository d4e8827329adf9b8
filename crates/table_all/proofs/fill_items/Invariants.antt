-- One reader draws the items: the tables have those below its position. Assumes nothing.
use mathlib.Core.Path.{◌≡◌}
use Prim.Native.Nat.{◌≤◌}
use Rattle.table_all.proofs.Drawn.{Drawn}
use Rattle.table_all.proofs.fill_items.Given as goal

abbrev pub invariant-loop-at : goal.invariant-loop-at
invariant-loop-at l = record {
  place : l.at-iterator.count ≡ l.at-iterator.iter.reader.at;
  low : l.at-iterator.iter.reader.at ≤ l.n;
  end : l.at-iterator.iter.end ≡ l.n;
  bytes : l.at-iterator.iter.reader.plan.now ≡ l.plan;
  drawn : Drawn l.plan l.kinds l.order l.conds l.at-iterator.count;
}
