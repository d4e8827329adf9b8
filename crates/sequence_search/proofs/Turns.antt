-- The turns of a search, by the laws of `sequences` for the first rest. Assumes nothing.
use mathlib.Core.Path.{◌≡◌, refl, ap, ◌∙◌}
use mathlib.Core.Logic.{◌↔◌}
use mathlib.Core.Bool.{Bool, true, false, not}
use mathlib.Core.Option.{Option, none, some}
use Rattle.std.specs.declared.option.Option as answer
use Rattle.std.specs.declared.option.Option.TheVariants.{Some, None}
use mathlib.Core.List.{List, [], ◌∷◌}
use Prim.Native.Nat.{ℕ, suc, ◌+◌, ◌*◌, ◌^◌, ◌%◌, ◌<◌, ◌≤◌, ◌-◌}
use native.Mathlib.Omega.{arith}
use native.Mathlib.Decide.{ℕ_discrete}
use lib.Bits.{bit_or}
use lib.ListN.{get_or}
use Rattle.base.proofs.Count.{count_le}
use Rattle.base.specs.Bits.{bit}
use Rattle.runs.specs.Plan.{Plan, Child}
use Rattle.runs.proofs.Reflect.{clash}
use Rattle.tables.specs.declared.Segment.{Segment}
use Rattle.sequences.specs.Model.{MayFollow, DeadEnd, FirstRest}
use Rattle.sequences.specs.Word.{packed}
use Rattle.sequences.proofs.Word.{one_byte_more, bytes_lt}
use Rattle.sequences.proofs.Search.{ends_here, not_next, nothing_behind, goes_on, ends_nowhere}
use Rattle.sequence_search.specs.declared.Reach.{Reach}
use Rattle.sequence_search.specs.Search.{count, child_at, follows_b, after, InRange, Tabled, flags_for, ComeTo}
use Rattle.sequence_search.specs.Search.{Carries, nothing, nodes, Finds, DeadTo}
use Rattle.sequence_search.proofs.Places.{place_of_lem, lower, child_small}
use Rattle.sequence_search.proofs.Follows.{none_left, some_left, follows, next_come}

-- both words of a search have 64 bits
pub both_wide : (r : Reach) → r.set < 2 ^ 64 → r.clear < 2 ^ 64 → (v : Bool) → flags_for r v < 2 ^ 64
both_wide r l1 l0 true = l1
both_wide r l1 l0 false = l0

module _ (rows kids : List ℕ) (s : Segment) (masks : List ℕ) (r : Reach) where
  -- nothing is left
  pub finds_all : r.left ≡ 0 → Finds rows kids s masks r (Some 0)
  unfolding packed
  finds_all e p F seen t cm =
      (some [], ends_here (none_left t cm e), nodes {xs = []} refl (omega (arith, e)) (rw e (omega arith)))

  -- every child is a dead end
  pub finds_none : {i : ℕ} → (r.left ≡ 0 → ⊥) → count s ≤ i → DeadTo rows kids s masks r i
      → Finds rows kids s masks r None
  finds_none n l d p F seen t cm = (none, ends_nowhere (some_left t cm n) dead, nothing refl)
    where
      dead : (c : ℕ) → Child p 0 c → DeadEnd p F seen c
      dead c h = let (j, lj, e) = place_of_lem t.root h in rw e at (d p F seen t cm j (omega (arith, lj, l)))

  -- the child at place i
  module _ {i : ℕ} (g : InRange kids s) (li : i < count s) (wide : (v : Bool) → flags_for r v < 2 ^ 64) where
    -- it is a dead end
    abbrev DeadAt : Type 0
    DeadAt = (p : Plan) (F : ℕ → Bool) (seen : List ℕ) → Tabled p rows kids s masks → ComeTo p F kids s seen r
        → DeadEnd p F seen (child_at kids s i)

    pub dead_more : DeadTo rows kids s masks r i → DeadAt → DeadTo rows kids s masks r (i + 1)
    dead_more d e p F seen t cm j l = at (ℕ_discrete j i)
      where
        at : Dec (j ≡ i) → DeadEnd p F seen (child_at kids s j)
        at (yes q) = rw q (e p F seen t cm)
        at (no n) = d p F seen t cm j (omega (arith, n, l))

    -- asked by the code: c is the child, and o the bit of its place
    module _ {c o : ℕ} (ec : c ≡ child_at kids s i) (eo : o ≡ 2 ^ i) {a : Bool}
        (ea : a ≡ follows_b rows c (get_or masks i 0) o r) where
      may_follow_lem : {p : Plan} {F : ℕ → Bool} {seen : List ℕ} → Tabled p rows kids s masks → ComeTo p F kids s seen r
          → (a ≡ true) ↔ MayFollow p F seen (child_at kids s i)
      may_follow_lem t cm = rw (ea, ec, eo)
          (follows t cm li wide)

      pub refused_dead : a ≡ false → DeadAt
      refused_dead e p F seen t cm = not_next (λ m. let q = (may_follow_lem t cm).1 m in clash cc)

      module _ (fe : a ≡ true) {next : Reach} (en : next ≡ after rows c o r) {y : answer.Option ℕ}
          (fi : Finds rows kids s masks next y) where
        behind : {p : Plan} {F : ℕ → Bool} {seen : List ℕ} → Tabled p rows kids s masks → ComeTo p F kids s seen r
            → MayFollow p F seen (child_at kids s i)
            × ((o : Option (List ℕ)) × FirstRest p F (child_at kids s i ∷ seen) o × Carries (r.left - 1) y o)
        behind t cm =
            let m = (may_follow_lem t cm).0 fe in
            (m, rw (en, ec, eo) at fi _ _ _ t (next_come t cm li m))

        pub empty_dead : y ≡ None → DeadAt
        empty_dead e p F seen t cm = let (m, (o, fr, h)) = behind t cm in at fr h
          where
            at : {o : Option (List ℕ)} → FirstRest p F (child_at kids s i ∷ seen) o → Carries (r.left - 1) y o
                → DeadEnd p F seen (child_at kids s i)
            at fr (nothing q) = nothing_behind fr
            at fr (nodes q l b) = clash cc

        pub finds_more : {x z : ℕ} → (r.left ≡ 0 → ⊥) → DeadTo rows kids s masks r i → y ≡ Some x
            → z ≡ bit_or ((x * 2 ^ 8) % 2 ^ 64) (child_at kids s i) → Finds rows kids s masks r (Some z)
        unfolding packed
        finds_more {x} {z} n d e q p F seen t cm = let (m, (o, fr, h)) = behind t cm in at m fr h
          where
            few_left : r.left ≤ 7
            few_left = omega (arith, cm.left, g.few, count_le (count s) (λ j. not (bit r.seen j)))

            dead : (b : ℕ) → Child p 0 b → b < child_at kids s i → DeadEnd p F seen b
            dead b hb l =
                let (j, lj, q) = place_of_lem t.root hb in
                rw q at (d p F seen t cm j (lower t.root li lj (rw (← q) at l)))

            at : MayFollow p F seen (child_at kids s i) → {o : Option (List ℕ)}
                → FirstRest p F (child_at kids s i ∷ seen) o → Carries (r.left - 1) y o
                → (o : Option (List ℕ)) × FirstRest p F seen o × Carries r.left (Some z) o
            at m fr (nothing k) = clash cc
            at m fr (nodes {xs = xs} k l b) = (
              some (child_at kids s i ∷ xs),
              goes_on (some_left t cm n) dead m fr,
              nodes {xs = child_at kids s i ∷ xs}
                  (ap Some (q ∙ ap (λ (v : ℕ). bit_or ((v * 2 ^ 8) % 2 ^ 64) (child_at kids s i)) word
                  ∙ one_byte_more (r.left - 1) b (omega (arith, child_small g li)) (omega (arith, few_left))))
                  (omega (arith, l, n))
                  (rw left_is at (bytes_lt (r.left - 1) {c = child_at kids s i} b (omega (arith, child_small g li)))),
            )
              where
                left_is : suc (r.left - 1) ≡ r.left
                left_is = omega (arith, n)

                word : x ≡ packed xs
                word = let s : Some x ≡ Some (packed xs) = cc in cc
