-- Each byte of a merged plan, as the code finds it. Assumes nothing.
use mathlib.Core.Path.{◌≡◌, sym, ◌∙◌}
use mathlib.Core.Bool.{true, false, ◌||◌}
use mathlib.Core.List.{List}
use Prim.Native.Nat.{ℕ, ◌+◌, ◌<◌}
use native.Mathlib.Omega.{arith}
use lib.Dec.{ltb}
use borrow.Author.Tests.{ltb-false}
use Rattle.base.specs.Answers.{overlay}
use Rattle.base.proofs.Booleans.{or_none}
use Rattle.plan_format.specs.Format.{node_count}
use Rattle.plan_format.specs.Whole.{Whole}
use Rattle.plan_check.proofs.Accepted.{clean}
use Rattle.plan_layout.specs.declared.Sizes.{Sizes}
use Rattle.plan_layout.specs.declared.Part.{Part}
use Rattle.plan_layout.specs.Layout.{Limited, PartOf, part_at}
use Rattle.plan_layout.specs.Fields.{Fields, byte_in, byte_at}
use Rattle.plan_layout.proofs.Valid.{Valid}
use Rattle.plan_parts.specs.Read.{sizes_of, fields_of}
use Rattle.plan_parts.specs.Joined.{joined_sizes, joined_fields, shifted_fields, has_part, part_after}
use Rattle.plan_parts.proofs.Read.{valid_of}
use Rattle.plan_parts.proofs.Joined.{PastStart, byte_first, byte_second, part_first, part_second, past_start}
use Rattle.plan_parts.proofs.Joined.{stays_past}
use Rattle.plan_parts.proofs.Small.{byte_small}
use Rattle.plan_merge.specs.Model.{root_sizes, root_fields, merged_sizes, merged_fields, refused33}
use Rattle.plan_merge.specs.Inner.{Mergeable}
use Rattle.plan_merge.proofs.Valid.{merged_valid}

module _ (b c : List ℕ) (ok : Mergeable b c) where
  pub whole_first : Whole b
  whole_first = (clean b ok.first_passes).fits

  pub whole_second : Whole c
  whole_second = (clean c ok.second_passes).fits

  pub limited : Limited (merged_sizes b c)
  unfolding refused33
  limited =
      let s = merged_sizes b c in
      let (x, y) = or_none (ltb 128 s.nodes || ltb 1024 s.conditions) (ltb 512 s.orders) ok.small in
      let (p, q) = or_none (ltb 128 s.nodes) (ltb 1024 s.conditions) x in
      record {
        nodes = ltb-false 128 s.nodes p;
        conditions = ltb-false 1024 s.conditions q;
        orders = ltb-false 512 s.orders y;
        flags = omega (arith, whole_first.limits.flags, whole_second.limits.flags);
      }

  pub valid : Valid (merged_fields b c)
  valid = merged_valid b c (valid_of b ok.first_passes) (valid_of c ok.second_passes) limited

  -- ---- a part that the new root does not have
  module _ (p : Part) (l : PartOf (merged_sizes b c) p) (below : has_part root_sizes p ≡ false) where
    abbrev both : Fields
    both = joined_fields (shifted_fields 1 (fields_of b)) (shifted_fields (1 + node_count b) (fields_of c))

    past : PastStart p
    past = past_start root_sizes (merged_sizes b c) p l below

    past_after : PastStart (part_after root_sizes p)
    past_after = stays_past root_sizes root_sizes p past

    below_is : byte_in (merged_fields b c) p ≡ byte_in both (part_after root_sizes p)
    below_is = byte_second root_fields both p past below

    below_part : PartOf (joined_sizes (sizes_of b) (sizes_of c)) (part_after root_sizes p)
    below_part = part_second root_sizes (joined_sizes (sizes_of b) (sizes_of c)) p l below

    fits : {x : ℕ} → x ≡ byte_in (merged_fields b c) p → x < 256
    fits e = rw e (byte_small (merged_fields b c) valid p past l)

    -- the part q of the first plan or of the second: what is asked where it is read, and what is read
    pub record ReadFrom (d : List ℕ) (s : ℕ) (q : Part) : Type 0 where
      pub whole : Whole d
      pub part : PartOf (sizes_of d) q
      pub small : byte_in (shifted_fields s (fields_of d)) q < 256
      pub same : byte_in (shifted_fields s (fields_of d)) q ≡ byte_in (merged_fields b c) p

    -- where the code has x for the shift and r for the part
    pub asked : {d : List ℕ} {s : ℕ} {q : Part} → ReadFrom d s q → (x : ℕ) (r : Part) → x ≡ s → r ≡ q
        → Whole d × PartOf (sizes_of d) r × (byte_in (shifted_fields x (fields_of d)) r < 256)
    asked f x r e h = rw (e, h) (f.whole, f.part, f.small)

    pub got : {d : List ℕ} {s y : ℕ} {q : Part} → ReadFrom d s q → (x : ℕ) (r : Part) → x ≡ s → r ≡ q
        → y ≡ byte_in (shifted_fields x (fields_of d)) r → y ≡ byte_in (merged_fields b c) p
    got f x r e h z = z ∙ rw (e, h) f.same

    pub from_first : has_part (sizes_of b) (part_after root_sizes p) ≡ true → ReadFrom b 1 (part_after root_sizes p)
    from_first h = let e = sym (below_is ∙ byte_first _ _ (part_after root_sizes p) past_after h) in record {
      whole = whole_first;
      part = part_first (sizes_of b) (sizes_of b) (part_after root_sizes p) h;
      small = fits e;
      same = e;
    }

    pub from_second : has_part (sizes_of b) (part_after root_sizes p) ≡ false
        → ReadFrom c (1 + node_count b) (part_after (sizes_of b) (part_after root_sizes p))
    from_second h = let e = sym (below_is ∙ byte_second _ _ (part_after root_sizes p) past_after h) in record {
      whole = whole_second;
      part = part_second (sizes_of b) (sizes_of c) (part_after root_sizes p) below_part h;
      small = fits e;
      same = e;
    }

-- a part of the new root
pub of_root : (b c : List ℕ) {x : ℕ} (p q : Part) → p ≡ q → PastStart q → has_part root_sizes p ≡ true
    → x ≡ byte_in root_fields q
    → x ≡ byte_in (merged_fields b c) p
of_root b c p q e z h r = rw e (r ∙ sym (byte_first root_fields _ q z (rw e at h)))

-- each byte by the part that it holds
pub overlaid : (b c : List ℕ) {s : Sizes} (n : ℕ) (out : List ℕ) → s ≡ merged_sizes b c
    → overlay (λ i. byte_in (merged_fields b c) (part_at s i)) n out ≡ overlay (byte_at (merged_fields b c)) n out
unfolding byte_at
overlaid b c n out e = rw e
