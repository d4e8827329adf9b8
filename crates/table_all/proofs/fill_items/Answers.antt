-- `fill_items` meets its contract, item by item. Assumes nothing.
use mathlib.Core.Path.{◌≡◌, refl, ap, ◌∙◌}
use mathlib.Core.Logic.{inl}
use native.Mathlib.Omega.{arith}
use Prim.Native.Nat.{◌+◌}
use Rattle.plan_check.proofs.Accepted.{clean}
use Rattle.plan_reader.specs.Items.{item_of}
use Rattle.plan_reader.specs.declared.Reading.{Reading}
use Rattle.table_all.proofs.Drawn.{drawn_none, drawn_fits, drawn_more, drawn_to}
use Rattle.table_all.proofs.fill_items.Goals as goal
use Rattle.table_all.proofs.fill_items.Goals.{In-Some}

pub loop-at-init-derived : goal.loop-at-init-derived
loop-at-init-derived c =
    let e = c.enumerate-at-items.ensures in
    rw (c.into_iter-at-iterator.ensures.into_iter_gives, e.source, e.count)
    ((((clean _ c.requires.0).fits, c.requires.1), tt, inl (omega arith)), tt)

pub loop-at-init : goal.loop-at-init
loop-at-init c =
    let e = c.enumerate-at-items.ensures in
    rw (c.into_iter-at-iterator.ensures.into_iter_gives, e.source, e.count)
    (record {
      place = refl;
      low = omega arith;
      end = refl;
      bytes = refl;
      drawn = drawn_none c.args.plan.now c.requires.2 c.requires.3 c.requires.4;
    })

-- the item of this turn
is_item : (c : In-Some) → c.in-Some.item ≡ item_of c.args.plan.now c.in-Some.at
is_item c =
    let i = c.loop-at.invariant in
    rw (c.in-Some.ensures.steps.1, i.place, ← i.bytes) c.in-Some.ensures.steps.0.1

pub put_item-requires : goal.put_item-requires
put_item-requires c =
    let d = c.loop-at.invariant.drawn in
    let s = c.in-Some.ensures.steps in
    let e = is_item (goal.at.put_item-requires c).In-Some in (
      drawn_fits _ (clean _ c.requires.0) _ e (omega (arith, s.0.0, s.1, c.requires.1)),
      d.codes.long,
      d.words.long,
    )

pub loop-at-preserved : goal.loop-at-preserved
loop-at-preserved c =
    let i = c.loop-at.invariant in
    let s = c.in-Some.ensures.steps in
    let r = s.0.2 in
    let at : c.next.new.self.iter.reader.at ≡ c.loop-at.at-iterator.iter.reader.at + 1 =
    ap (λ (x : Reading). x.reader.at) r in
    record {
      place = omega (arith, s.2, i.place, at);
      low = omega (arith, at, s.0.0, i.end);
      end = ap (λ (x : Reading). x.end) r ∙ i.end;
      bytes = ap (λ (x : Reading). x.reader.plan.now) r ∙ i.bytes;
      drawn = rw (s.2, ← s.1)
          (drawn_more _ (clean _ c.requires.0) _ (is_item (goal.at.loop-at-preserved c).In-Some) _ _ _ (rw s.1 i.drawn)
          c.put_item.ensures (omega (arith, s.0.0, s.1, c.requires.1)));
    }

pub returns : goal.returns
returns c =
    let i = c.loop-at.invariant in
    let e : c.loop-at.at-iterator.count ≡ c.args.n = omega (arith, c.in-None.ensures.steps.0.0) in
    drawn_to _ c.requires.0 c.requires.1 (rw e at i.drawn)
