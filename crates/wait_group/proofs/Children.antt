-- The children of a group, turn by turn. Assumes nothing.
use mathlib.Core.Path.{◌≡◌, refl, sym, ap, ◌∙◌}
use mathlib.Core.Bool.{Bool, true}
use mathlib.Core.List.{List}
use Prim.Native.Nat.{ℕ, max, ◌+◌, ◌<◌, ◌≤◌}
use native.Mathlib.Omega.{arith}
use lib.ListN.{get_or}
use Rattle.plan_format.specs.Format.{node_count, order_count, earlier_of, later_of, is_kind, is_choice}
use Rattle.plan_rules.specs.Rules.{is_child}
use Rattle.plan_check.proofs.Accepted.{Clean, clean}
use Rattle.plan_check.proofs.Meaning.{kind_is}
use Rattle.tables.specs.declared.Segment.{Segment}
use Rattle.tables.specs.Segments.{segment_of, Position, Every}
use Rattle.tables.specs.Represents.{AtGroup}
use Rattle.tables.proofs.Segments.{every_next}
use Rattle.table_children.proofs.Listed.{listed_child, every_listed, lower_before}
use Rattle.wait_lengths.specs.Waits.{greatest, length_of, wait_within}
use Rattle.wait_group.specs.Spread.{Raised, GroupOf, Tables, ChildLengths, Spread}
use Rattle.wait_lengths.proofs.Greatest.{greatest_le, greatest_least}
use Rattle.wait_lengths.proofs.Lengths.{child_lower, earlier_child, length_any, length_all, order_waits, waits_least}
use Rattle.wait_lengths.proofs.Bounds.{child_limit}

-- ---- v is the greatest f over the children at the positions from low to i, or 0
pub record GreatestTo (kids : List ℕ) (low : ℕ) (f : ℕ → ℕ) (i v : ℕ) : Type 0 where
  pub bound : Every kids low i (λ c. f c ≤ v)
  pub least : (u : ℕ) → Every kids low i (λ c. f c ≤ u) → v ≤ u

module _ {kids : List ℕ} {low : ℕ} {f : ℕ → ℕ} where
  pub greatest_start : {i : ℕ} → i ≡ low → GreatestTo kids low f i 0
  greatest_start e = record { bound = record { each = λ j a b. absurd (omega arith) }; least = λ u h. omega arith }

  pub greatest_turn : {i c v x y : ℕ} → low ≤ i → c ≡ get_or kids i 0 → x ≡ f c → y ≡ max v x
      → GreatestTo kids low f i v → GreatestTo kids low f (i + 1) y
  greatest_turn {i} {x = x} l e q z h =
      let k : x ≡ f (get_or kids i 0) = q ∙ ap f e in
      record {
        bound = (every_next l).0 (
          record { each = λ j a b. omega (arith, h.bound.each j a b, z) },
          omega (arith, k, z),
        );
        least = λ u w. let p = (every_next l).1 w in omega (arith, h.least u p.0, p.1, k, z);
      }

-- ---- a turn of the loop over the children, from start to end
pub turn : (from : List ℕ) (g : ℕ) {segment : Segment} {i : ℕ} → segment ≡ segment_of from g → segment.start ≤ i
    → i < segment.end → Position (segment_of from g) i
turn from g {segment} {i} e l m = let p : Position segment i = record { low = l; high = m } in rw e at p

module _ {b from kids : List ℕ} {test : Bool} {g : ℕ} (o : GroupOf b from kids test g) where
  ok : Clean b
  ok = clean b o.accepted

  pub at_group : AtGroup from kids (node_count b) g
  at_group = record { shaped = o.tree.whole.shaped; below = o.node }

  module _ {segment : Segment} (here : segment ≡ segment_of from g) where
    pub child_at_lem : {i c : ℕ} → c ≡ get_or kids i 0 → Position segment i → is_child b g c ≡ true
    child_at_lem = listed_child o.tree o.node here

    greatest_all : {f : ℕ → ℕ} {v : ℕ} → GreatestTo kids segment.start f segment.end v
        → v ≡ greatest (node_count b) (is_child b g) f
    greatest_all {f} {v} h =
        let up = h.least (greatest (node_count b) (is_child b g) f) (record {
          each = λ j l m.
              let c = get_or kids j 0 in
              let e = child_at_lem refl (record { low = l; high = m }) in
              greatest_le (is_child b g) f (node_count b) c (child_lower b ok g c e).1 e;
        }) in
        let low = greatest_least (is_child b g) f (node_count b) v
        (λ c l e. every_listed o.tree o.node here h.bound c e) in
        omega arith

-- an any-of or optional group
pub any_all : {b from kids : List ℕ} {g v : ℕ} {segment : Segment} → GroupOf b from kids (is_choice b g) g
    → segment ≡ segment_of from g
    → GreatestTo kids segment.start (length_of b) segment.end v → v ≡ length_of b g
any_all {b} {g = g} o here h = greatest_all o here h ∙ sym (length_any b (ok o) g o.node o.kind)

-- ---- the children of an all-of group, those at the positions before i
-- a child's wait stands in the table, and what waits for it by an order waits long enough
pub record ChildDone (b waits : List ℕ) (c : ℕ) : Type 0 where
  pub wait : get_or waits c 0 ≡ wait_within b c
  pub met : (j : ℕ) → j < order_count b → earlier_of b j ≡ c
      → wait_within b c + length_of b c ≤ get_or waits (later_of b j) 0

pub record SpreadTo (b kids : List ℕ) (segment : Segment) (lengths waits₀ waits : List ℕ) (i v : ℕ) : Type 0 where
  pub tables : Tables b lengths waits
  pub grown : (m : ℕ) → get_or waits₀ m 0 ≤ get_or waits m 0
  pub done : Every kids segment.start i (ChildDone b waits)
  pub longest : GreatestTo kids segment.start (λ c. wait_within b c + length_of b c) i v

module _ {b from kids lengths waits₀ : List ℕ} {g : ℕ} {segment : Segment}
    (o : GroupOf b from kids (is_kind b g 1) g) (here : segment ≡ segment_of from g) where
  pub spread_none : Tables b lengths waits₀ → SpreadTo b kids segment lengths waits₀ waits₀ segment.start 0
  spread_none t = record {
    tables = t;
    grown = λ m. omega arith;
    done = record { each = λ j a k. absurd (omega arith) };
    longest = greatest_start refl;
  }

  module _ {waits : List ℕ} {i c v : ℕ} (e : c ≡ get_or kids i 0) (p : Position segment i)
      (s : SpreadTo b kids segment lengths waits₀ waits i v) where
    -- all orders into c are met: their earlier nodes have lower numbers, so they stand before it
    spread_wait : get_or waits c 0 ≡ wait_within b c
    spread_wait =
        let h = child_at_lem o here e p in
        let up = s.tables.within c (child_lower b (ok o) g c h).1 in
        let low = waits_least b (ok o) g c (get_or waits c 0) h (kind_is b g 1 o.kind).1 (λ j l q.
        let x = earlier_child b (ok o) g c j l q h in
        rw q at ((lower_before o.tree o.node here p s.done (earlier_of b j) x.1
        (rw e at x.0)).met j l refl)) in
        omega arith

    pub spread_end : ChildLengths b lengths g
        → (get_or waits c 0 + get_or lengths c 0 ≡ wait_within b c + length_of b c)
        × (wait_within b c + length_of b c ≤ 1290240)
    spread_end h = (
      omega (arith, spread_wait, h.is c (child_at_lem o here e p)),
      child_limit b (ok o) g c (child_at_lem o here e p),
    )

    pub spread_more : {waits' : List ℕ} {x y : ℕ} → x ≡ wait_within b c + length_of b c → Raised b waits waits' c x
        → y ≡ max v x → SpreadTo b kids segment lengths waits₀ waits' (i + 1) y
    spread_more {waits'} {x} q r m = record {
      tables = record {
        lengths_long = s.tables.lengths_long;
        waits_long = r.long;
        tasks = s.tables.tasks;
        within = within;
      };
      grown = λ n. omega (arith, s.grown n, r.grown n);
      done = (every_next p.low).0 (record { each = λ j l k. still j l k (s.done.each j l k) }, rw e at own);
      longest = greatest_turn p.low e q m s.longest;
    }
      where
        within : (n : ℕ) → n < node_count b → get_or waits' n 0 ≤ wait_within b n
        within n l = r.only n (wait_within b n) (s.tables.within n l) (λ j k z w.
            let y = order_waits b (ok o) j k in
            omega (arith, ap (λ (u : ℕ). wait_within b u + length_of b u) z, ap (wait_within b) w))

        kept : (d : ℕ) → is_child b g d ≡ true → get_or waits d 0 ≡ wait_within b d
            → get_or waits' d 0 ≡ wait_within b d
        kept d h z = let up = within d (child_lower b (ok o) g d h).1 in let low = r.grown d in omega arith

        still : (j : ℕ) → segment.start ≤ j → j < i → ChildDone b waits (get_or kids j 0)
            → ChildDone b waits' (get_or kids j 0)
        still j l k z = record {
          wait = kept (get_or kids j 0) (child_at_lem o here refl (record { low = l; high = omega (arith, p.high) }))
              z.wait;
          met = λ n m w. omega (arith, z.met n m w, r.grown (later_of b n));
        }

        own : ChildDone b waits' c
        own = record {
          wait = kept c (child_at_lem o here e p) spread_wait;
          met = λ j l w. omega (arith, r.reached j l w);
        }

  pub spread_all : {waits : List ℕ} {v : ℕ} → SpreadTo b kids segment lengths waits₀ waits segment.end v
      → Spread b lengths waits₀ waits g v
  spread_all s = record {
    tables = s.tables;
    grown = s.grown;
    children = λ c h. (every_listed o.tree o.node here s.done c h).wait;
    greatest = greatest_all o here s.longest ∙ sym (length_all b (ok o) g o.node (kind_is b g 1 o.kind).1);
  }
