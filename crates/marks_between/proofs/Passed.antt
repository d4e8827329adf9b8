-- The flags that pass the children in a part of the table, and in all of it. Assumes nothing.
use mathlib.Core.Path.{◌≡◌, refl}
use mathlib.Core.Logic.{◌↔◌}
use mathlib.Core.Bool.{Bool, true, false}
use mathlib.Core.List.{List}
use Prim.Native.Nat.{ℕ, ◌+◌, ◌≤◌, ◌<◌}
use native.Mathlib.Omega.{arith}
use lib.Dec.{T}
use lib.ListN.{get_or}
use Rattle.base.specs.Bits.{bit}
use Rattle.base.specs.Words.{Says}
use Rattle.base.proofs.Says.{says_map, says_none, no_flag}
use Rattle.runs.specs.Plan.{Plan, Child}
use Rattle.tables.specs.declared.Segment.{Segment}
use Rattle.tables.specs.Segments.{Position, AtSegment}
use Rattle.marks_row.specs.Columns.{avoid}
use Rattle.marks_row.proofs.Rows.{cell}
use Rattle.tables.proofs.Segments.{listed, every_next, every_child, joined}
use Rattle.marks_siblings.specs.Siblings.{Narrows}
use Rattle.marks_siblings.proofs.Sibling.{silent_cell}
use Rattle.marks_between.specs.Passing.{Passes, InTheWay, LetsPass, PartWord, PassingPart, Pairing, PassingWord}

-- the part of a segment from low to high
pub part_of : {kids : List ℕ} {segment : Segment} {low high : ℕ} → AtSegment kids segment → segment.start ≤ low
    → low ≤ high → high ≤ segment.end
    → AtSegment kids (record { start = low; end = high })
part_of s a b c = record {
  rises = b;
  ends = omega (arith, s.ends);
  nodes = record { each = λ i x y. s.nodes.each i (omega arith) (omega arith) };
}

-- the given flags for which every child in a part has Q
module _ {kids : List ℕ} {flags low : ℕ} {Q : ℕ → ℕ → Type 0} where
  -- one child more, no flag left
  pub part_more : {i w r : ℕ} {C : Type 0} {A : ℕ → Type 0} → low ≤ i → Narrows w r C A
      → ((f : ℕ) → f < 64 → (C → A f) ↔ Q f (get_or kids i 0))
      → PartWord kids low i flags Q w → PartWord kids low (i + 1) flags Q r
  part_more a m e h = record {
    says = λ f l. says_map (
      λ x. let y = (h.says f l).to x.0 in (y.0, (every_next a).0 (y.1, (e f l).0 x.1)),
      λ x. let y = (every_next a).1 x.1 in ((h.says f l).from (x.0, y.0), (e f l).1 y.1),
    ) (m.says f l);
  }

  pub part_empty : {i w high : ℕ} → i ≤ high → w ≡ 0 → PartWord kids low i flags Q w → PartWord kids low high flags Q 0
  part_empty a e h = record {
    says = λ f l. says_none refl (λ x. no_flag _ f e
        ((h.says f l).from (x.0, record { each = λ k b c. x.1.each k b (omega arith) })));
  }

  -- a part, and of the flags left those for the part before it
  pub parts : {middle high w r : ℕ} → low ≤ middle → middle ≤ high → PartWord kids middle high flags Q w
      → PartWord kids low middle w Q r
      → PartWord kids low high flags Q r
  parts {middle} a b x y = record {
    says = λ f l. says_map (
      λ z. let t = (x.says f l).to z.0 in (t.0, joined middle z.1 t.1),
      λ z. (
        (x.says f l).from (z.0, record { each = λ i c d. z.1.each i (omega arith) d }),
        record { each = λ i c d. z.1.each i c (omega arith) },
      ),
    ) (y.says f l);
  }

module _ {kids : List ℕ} {segment : Segment} {order rows : List ℕ} {p : Plan} {n : ℕ}
    (g : Pairing kids segment order rows p n) where
  -- the child at a position of the segment
  pub kid : {i x : ℕ} → x ≡ get_or kids i 0 → Position segment i → Child p n x
  kid e at = listed g.group.listed e at

  -- the flags that pass every child in the whole segment: by the tables and by the plan
  module _ {c d f : ℕ} (hc : Child p n c) (hd : Child p n d) (l : f < 64) where
    every_passes : (always : Bool) → ((b : ℕ) → Child p n b → InTheWay order always b c d → LetsPass rows always b f)
        ↔ Passes p n f always c d
    every_passes false = (
      λ h b hb x y. (cell (g.group.children b hb) l avoid).0
          (h b hb (
            (g.orders.before d b hd.node hb.node).1 x,
            (g.orders.before b c hb.node hc.node).1 y,
          )),
      λ h b hb x. (cell (g.group.children b hb) l avoid).1
          (h b hb ((g.orders.before d b hd.node hb.node).0 x.0)
          ((g.orders.before b c hb.node hc.node).0 x.1)),
    )
    every_passes true = (
      λ h b hb not_c not_d not_before not_after. (silent_cell (g.group.children b hb) l).0 (h b hb (record {
        not_c = not_c;
        not_d = not_d;
        not_before = λ z. not_before ((g.orders.before b d hb.node hd.node).0 z);
        not_after = λ z. not_after ((g.orders.after b c hb.node hc.node).0 z);
      })),
      λ h b hb x. (silent_cell (g.group.children b hb) l).1 (h b hb x.not_c x.not_d
          (λ z. x.not_before ((g.orders.before b d hb.node hd.node).1 z))
          (λ z. x.not_after ((g.orders.after b c hb.node hc.node).1 z))),
    )

    pub passing_all : (always : Bool) {flags r : ℕ}
        → PassingPart kids segment.start segment.end order rows always flags c d r
        → Says r f (T (bit flags f) × Passes p n f always c d)
    passing_all always s = let every = every_child g.group.listed (λ b hb. (λ x. x, λ x. x)) in
        says_map (
          λ x. (x.0, (every_passes always).0 (every.0 x.1)),
          λ x. (x.0, every.1 ((every_passes always).1 x.1)),
        ) (s.says f l)

pub passing_says : {kids : List ℕ} {segment : Segment} {order rows : List ℕ} {flags c d r : ℕ} (always : Bool)
    → PassingPart kids segment.start segment.end order rows always flags c d r
    → PassingWord kids segment order rows always flags c d r
passing_says always s = record {
  among = λ f l t. ((s.says f l).to t).0;
  says = λ p n g hc hd f l. passing_all g hc hd l always s;
}

-- the child at a position, by its number
pub passing_kid : {kids : List ℕ} {segment : Segment} {order rows : List ℕ} {flags c d k r : ℕ} {always : Bool} → d ≡ k
    → PassingWord kids segment order rows always flags c k r
    → PassingWord kids segment order rows always flags c d r
passing_kid e h = rw e h
