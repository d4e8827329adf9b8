-- The words of may clobber of the children in a segment. Assumes nothing.
use mathlib.Core.Path.{◌≡◌, refl, ◌∙◌}
use mathlib.Core.Bool.{Bool, true, false}
use mathlib.Core.List.{List}
use Prim.Native.Nat.{ℕ, ◌+◌, ◌-◌, ◌^◌, ◌<◌}
use native.Mathlib.Omega.{arith}
use lib.Dec.{T}
use lib.Bits.{bit_or}
use lib.ListN.{length, get_or, take, drop}
use Rattle.std.specs.Bool.{MatchBool}
use Rattle.std.specs.List.{AllWithin, HoldsAt}
use Rattle.std.proofs.lemmas.List.{length-take-le, length-drop, get_or-take, get_or-drop, get_or_default}
use Rattle.base.specs.Bits.{bit}
use Rattle.base.proofs.Says.{no_flag}
use Rattle.base.proofs.Words.{no_bits, or_zero}
use Rattle.runs.proofs.Reflect.{clash}
use Rattle.tables.specs.declared.Segment.{Segment}
use Rattle.tables.specs.Segments.{Position, AtSegment}
use Rattle.marks_row.specs.Columns.{may_clobber, word_in}
use Rattle.sequence.specs.Inner.{CalmIn}

-- the children in a segment
abbrev pub kids_in : List ℕ → Segment → List ℕ
kids_in kids s = take (s.end - s.start) (drop s.start kids)

-- no flag in either word of the child c
abbrev pub Quiet : List ℕ → ℕ → Type 0
Quiet rows c = bit_or (word_in rows c (may_clobber false)) (word_in rows c (may_clobber true)) ≡ 0

module _ {kids : List ℕ} {s : Segment} (a : AtSegment kids s) (long : length kids ≡ 128) where
  kids_length : length (kids_in kids s) ≡ s.end - s.start
  kids_length = length-take-le _ _ (rw length-drop (omega (arith, long, a.ends)))

  kid_is : {k : ℕ} (d : ℕ) → k < s.end - s.start → get_or (kids_in kids s) k d ≡ get_or kids (s.start + k) 0
  kid_is {k} d l = get_or-take (s.end - s.start) (drop s.start kids) k d l ∙ get_or-drop s.start kids k d
      ∙ get_or_default kids (s.start + k) d 0 (omega (arith, l, long, a.ends))

  -- what stands in it is a node
  pub kid_below : {x k : ℕ} → k < length (kids_in kids s) → x ≡ get_or (kids_in kids s) k x → x < 128
  kid_below {x} {k} l e =
      let m : k < s.end - s.start = rw kids_length at l in
      rw (e ∙ kid_is _ m) (a.nodes.each (s.start + k) (omega arith) (omega arith))

  module _ {rows : List ℕ} (wide : (i : ℕ) → get_or rows i 0 < 2 ^ 64) where
    -- all of them are quiet, or one is not
    pub calm_is : (r : Bool)
        → MatchBool r (AllWithin (Quiet rows) (kids_in kids s) 0 (length (kids_in kids s)))
        ((k : ℕ) × (k < length (kids_in kids s)) × HoldsAt (λ c. ¬ Quiet rows c) (kids_in kids s) k)
        → CalmIn rows kids s r
    calm_is true h = record { tells = (λ e i q. none i q (quiet i q), λ x. refl) }
      where
        quiet : (i : ℕ) → Position s i → Quiet rows (get_or kids i 0)
        quiet i q =
            let l : i - s.start < s.end - s.start = omega (arith, q.low, q.high) in
            let m : i - s.start < length (kids_in kids s) = rw kids_length l in
            let e : s.start + (i - s.start) ≡ i = omega (arith, q.low) in
            rw (kid_is 0 l, e) at (h (i - s.start) 0 (omega arith) m)

        none : (i : ℕ) → Position s i → Quiet rows (get_or kids i 0) → (v : Bool) (f : ℕ) → f < 64
            → ¬ T (bit (word_in rows (get_or kids i 0) (may_clobber v)) f)
        none i q z false f m = no_flag _ f (or_zero _ _ z).0
        none i q z true f m = no_flag _ f (or_zero _ _ z).1
    calm_is false (k, l, h) = record { tells = (λ e. clash cc, λ n. absurd (rw (kid_is 0 m) at (h 0) (zero n))) }
      where
        m : k < s.end - s.start
        m = rw kids_length at l

        at : Position s (s.start + k)
        at = record { low = omega arith; high = omega (arith, m) }

        zero : ((i : ℕ) → Position s i → (v : Bool) (f : ℕ) → f < 64
            → ¬ T (bit (word_in rows (get_or kids i 0) (may_clobber v)) f)) → Quiet rows (get_or kids (s.start + k) 0)
        zero n =
            let z0 = no_bits _ (wide _) (n (s.start + k) at false) in
            let z1 = no_bits _ (wide _) (n (s.start + k) at true) in
            rw (z0, z1) refl
