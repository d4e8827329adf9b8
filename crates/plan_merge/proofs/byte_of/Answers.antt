-- `byte_of` meets its contract. Assumes nothing.
use mathlib.Core.Path.{◌≡◌, refl, sym, ap, ◌∙◌}
use mathlib.Core.Bool.{Bool, false}
use mathlib.Core.List.{List}
use Prim.Native.Nat.{ℕ}
use native.Mathlib.Omega.{arith}
use Rattle.plan_layout.specs.declared.Sizes.{Sizes}
use Rattle.plan_layout.specs.declared.Part.{Part}
use Rattle.plan_parts.specs.Read.{sizes_of}
use Rattle.plan_parts.specs.Joined.{has_part, part_after}
use Rattle.plan_merge.specs.Model.{root_sizes}
use Rattle.plan_merge.proofs.Bytes.{whole_first, asked, got, from_first, from_second}
use Rattle.plan_merge.proofs.byte_of.Goals as goal

-- the new root does not have the part; what the part is below it
not_root : {h : Sizes} {t : Bool} (p : Part) → h ≡ root_sizes → t ≡ has_part h p → t ≡ false
    → has_part root_sizes p ≡ false
not_root p e f g = ap (λ (s : Sizes). has_part s p) (sym e) ∙ sym f ∙ g

below_is : {h : Sizes} {q : Part} (p : Part) → h ≡ root_sizes → q ≡ part_after h p → q ≡ part_after root_sizes p
below_is p e f = f ∙ ap (λ (s : Sizes). part_after s p) e

-- the first plan has it, or not; what it is after the first plan
module _ {s : Sizes} {q : Part} (b : List ℕ) (p : Part) (e : s ≡ sizes_of b) (h : q ≡ part_after root_sizes p) where
  first_has : {t u : Bool} → t ≡ has_part s q → t ≡ u → has_part (sizes_of b) (part_after root_sizes p) ≡ u
  first_has f g = sym (f ∙ rw (e, h)) ∙ g

  second_is : {r : Part} → r ≡ part_after s q → r ≡ part_after (sizes_of b) (part_after root_sizes p)
  second_is f = f ∙ rw (e, h)

pub has_part-requires : goal.has_part-requires
has_part-requires c = rw c.root_sizes-root.ensures (omega arith)

pub new_byte-requires : goal.new_byte-requires
new_byte-requires c = (
  c.requires.0,
  c.requires.1,
  rw (← c.root_sizes-root.ensures) (sym c.has_part.ensures ∙ c.if-has_part.true),
)

pub part_after-below-requires : goal.part_after-below-requires
part_after-below-requires c =
    (rw c.root_sizes-root.ensures (omega arith), sym c.has_part.ensures ∙ c.if-has_part.false)

pub sizes_of-before-requires : goal.sizes_of-before-requires
sizes_of-before-requires c = (whole_first _ _ c.requires.0).limits.long

pub has_part-requires-2 : goal.has_part-requires-2
has_part-requires-2 c = rw c.sizes_of-before.ensures (whole_first _ _ c.requires.0).limits.nodes

pub part_byte-requires : goal.part_byte-requires
part_byte-requires c =
    let p = c.args.part in
    let n = not_root p c.root_sizes-root.ensures c.has_part.ensures c.if-has_part.false in
    let q = below_is p c.root_sizes-root.ensures c.part_after-below.ensures in
    let h = first_has _ p c.sizes_of-before.ensures q c.has_part-2.ensures c.if-has_part-2.true in
    asked _ _ _ _ _ _ (from_first _ _ c.requires.0 p c.requires.2 n h) _ _ refl q

pub returns-then-has_part-2 : goal.returns-then-has_part-2
returns-then-has_part-2 c =
    let p = c.args.part in
    let n = not_root p c.root_sizes-root.ensures c.has_part.ensures c.if-has_part.false in
    let q = below_is p c.root_sizes-root.ensures c.part_after-below.ensures in
    let h = first_has _ p c.sizes_of-before.ensures q c.has_part-2.ensures c.if-has_part-2.true in
    got _ _ _ _ _ _ (from_first _ _ c.requires.0 p c.requires.2 n h) _ _ refl q c.part_byte.ensures

pub part_after-own-requires : goal.part_after-own-requires
part_after-own-requires c =
    let w = whole_first _ _ c.requires.0 in
    (rw c.sizes_of-before.ensures w.limits.nodes, sym c.has_part-2.ensures ∙ c.if-has_part-2.false)

pub overflow_cast-before : goal.overflow_cast-before
overflow_cast-before c = omega (
  arith,
  ap (λ (t : Sizes). t.nodes) c.sizes_of-before.ensures,
  (whole_first _ _ c.requires.0).limits.nodes,
)

pub overflow_add-before : goal.overflow_add-before
overflow_add-before c = omega (
  arith,
  ap (λ (t : Sizes). t.nodes) c.sizes_of-before.ensures,
  (whole_first _ _ c.requires.0).limits.nodes,
)

pub part_byte-requires-2 : goal.part_byte-requires-2
part_byte-requires-2 c =
    let p = c.args.part in
    let e = c.sizes_of-before.ensures in
    let n = not_root p c.root_sizes-root.ensures c.has_part.ensures c.if-has_part.false in
    let q = below_is p c.root_sizes-root.ensures c.part_after-below.ensures in
    let h = first_has _ p e q c.has_part-2.ensures c.if-has_part-2.false in
    asked _ _ _ _ _ _ (from_second _ _ c.requires.0 p c.requires.2 n h) _ _
    (omega (arith, ap (λ (t : Sizes). t.nodes) e)) (second_is _ p e q c.part_after-own.ensures)

pub returns : goal.returns
returns c =
    let p = c.args.part in
    let e = c.sizes_of-before.ensures in
    let n = not_root p c.root_sizes-root.ensures c.has_part.ensures c.if-has_part.false in
    let q = below_is p c.root_sizes-root.ensures c.part_after-below.ensures in
    let h = first_has _ p e q c.has_part-2.ensures c.if-has_part-2.false in
    got _ _ _ _ _ _ (from_second _ _ c.requires.0 p c.requires.2 n h) _ _
    (omega (arith, ap (λ (t : Sizes). t.nodes) e)) (second_is _ p e q c.part_after-own.ensures) c.part_byte-2.ensures
