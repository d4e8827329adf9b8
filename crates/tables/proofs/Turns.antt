-- A loop over the children in a segment: i goes through its positions. Assumes nothing.
use mathlib.Core.Path.{◌≡◌}
use mathlib.Core.List.{List}
use Prim.Native.Nat.{ℕ, ◌+◌, ◌-◌, ◌≤◌, ◌<◌}
use native.Mathlib.Omega.{arith}
use lib.ListN.{get_or}
use Rattle.tables.specs.declared.Segment.{Segment}
use Rattle.tables.specs.Segments.{segment_of, Position, Reached, AtSegment, AtPair}
use Rattle.tables.specs.Represents.{AtGroup}

-- the segment of a node of shaped tables
module _ {from kids : List ℕ} {size g : ℕ} {s : Segment} (a : AtGroup from kids size g) (e : s ≡ segment_of from g)
  where
    -- a child has a greater number than its group
    pub kid_later : {i x : ℕ} → Position s i → x ≡ get_or kids i 0 → (g < x) × (x < size)
    kid_later {i} p q = rw q (a.shaped.rises g i a.below (rw e at p))

    pub at_segment : AtSegment kids s
    at_segment = rw e (record {
      rises = a.shaped.starts g a.below;
      ends = a.shaped.ends g a.below;
      nodes = record {
        each = λ i l h. omega
            (arith, a.shaped.small, (a.shaped.rises g i a.below (record { low = l; high = h })).1);
      };
    })

module _ {kids : List ℕ} {s : Segment} (a : AtSegment kids s) where
  pub first_turn : Reached s s.start
  first_turn = record { low = omega arith; high = a.rises }

  -- a position is one of the table of children, and what stands there is a node
  pub position_small : {i : ℕ} → Position s i → i < 128
  position_small p = omega (arith, p.high, a.ends)

  pub kid_small : {i x : ℕ} → Position s i → x ≡ get_or kids i 0 → x < 128
  kid_small {i} p q = omega (arith, q, a.nodes.each i p.low p.high)

-- both children of a pair are nodes
pub pair_small : {kids : List ℕ} {s : Segment} {c j d : ℕ} → AtPair kids s c j → d ≡ get_or kids j 0
    → (c < 128) × (d < 128)
pair_small a e = (a.child, kid_small a.segment a.other e)

module _ {s : Segment} {i : ℕ} (t : Reached s i) where
  pub position : i < s.end → Position s i
  position l = record { low = t.low; high = l }

  pub next_turn : i < s.end → Reached s (i + 1)
  next_turn l = record { low = omega (arith, t.low); high = omega (arith, l) }

  pub last_turn : s.end ≤ i → i ≡ s.end
  last_turn l = omega (arith, l, t.high)

-- a child is nearer to n than its group
pub nearer : {n g c t : ℕ} → n - g ≡ t → (g < c) × (c < n) → n - c < t
nearer e l = omega (arith, e, l.0, l.1)
