-- The root's children by their places in a segment. Assumes nothing.
use mathlib.Core.Path.{◌≡◌, refl, sym, ap, ◌∙◌}
use mathlib.Core.Logic.{◌≢◌, by_cases}
use mathlib.Core.List.{List}
use Prim.Native.Nat.{ℕ, ◌+◌, ◌<◌, ◌-◌}
use native.Mathlib.Omega.{arith}
use native.Mathlib.Decide.{ℕ_discrete, dec_lt}
use lib.ListN.{get_or}
use Rattle.runs.specs.Plan.{Plan, Child}
use Rattle.tables.specs.declared.Segment.{Segment}
use Rattle.tables.specs.Segments.{Position}
use Rattle.sequence_search.specs.Search.{CHILDREN, count, child_at, InRange, RootChildren}

pub place_in : {s : Segment} {i : ℕ} → i < count s → Position s (s.start + i)
place_in l = record { low = omega arith; high = omega (arith, l) }

module _ {kids : List ℕ} {s : Segment} (g : InRange kids s) {i : ℕ} (l : i < count s) where
  -- a place is one of the table of children and of the masks, and what stands there is a node
  pub place_small : (i < CHILDREN) × (s.start + i < 128)
  place_small = (omega (arith, l, g.few), omega (arith, l, g.at.ends))

  pub child_small : child_at kids s i < 128
  child_small = g.at.nodes.each (s.start + i) (omega arith) (omega (arith, l))

module _ {p : Plan} {kids : List ℕ} {s : Segment} (t : RootChildren p kids s) where
  pub is_child_lem : {i : ℕ} → i < count s → Child p 0 (child_at kids s i)
  is_child_lem {i} l = (t.children.child _).1 (record { at = s.start + i; position = place_in l; is = refl })

  pub place_of_lem : {c : ℕ} → Child p 0 c → (i : ℕ) × (i < count s) × (child_at kids s i ≡ c)
  place_of_lem {c} h =
      let x = (t.children.child c).0 h in
      let e : s.start + (x.at - s.start) ≡ x.at = omega (arith, x.position.low) in (
        x.at - s.start,
        omega (arith, x.position.low, x.position.high),
        ap (λ (k : ℕ). get_or kids k 0) e ∙ x.is,
      )

  -- at two places stand two nodes
  pub two_nodes : {i j : ℕ} → i < j → j < count s → child_at kids s i ≢ child_at kids s j
  two_nodes {i} {j} l m e = omega (
    arith,
    e,
    t.rising (s.start + i) (s.start + j) (place_in (omega (arith, l, m))) (place_in m) (omega arith),
  )

  pub same_place : {i j : ℕ} → i < count s → j < count s → child_at kids s j ≡ child_at kids s i → j ≡ i
  same_place {i} {j} li lj e = by_cases (dec_lt j i) (λ (l : j < i). absurd (two_nodes l li e))
      (λ n. by_cases (dec_lt i j) (λ (l : i < j). absurd (two_nodes l lj (sym e))) (λ m. omega arith))

  -- a lower node stands at a lower place
  pub lower : {i j : ℕ} → i < count s → j < count s → child_at kids s j < child_at kids s i → j < i
  lower {i} {j} li lj l = by_cases (dec_lt j i) (λ (x : j < i). x) (λ x. by_cases (ℕ_discrete i j)
      (λ (e : i ≡ j). absurd (omega (arith, l, ap (λ (k : ℕ). child_at kids s k) e)))
      (λ n. absurd (omega (
        arith,
        l,
        t.rising (s.start + i) (s.start + j) (place_in li) (place_in lj) (omega arith),
      ))))
