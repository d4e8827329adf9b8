-- `merge` meets its contract. Assumes nothing.
use mathlib.Core.Path.{◌≡◌, sym, ap, ◌∙◌}
use mathlib.Core.List.{List}
use Prim.Native.Nat.{ℕ}
use native.Mathlib.Omega.{arith}
use Rattle.std.proofs.Common.{rules}
use Rattle.std.proofs.lemmas.Result.{err_from_is_err_and}
use Rattle.answers.proofs.Refusals.{some_number}
use Rattle.plan_rules.specs.Rules.{refusal}
use Rattle.plan_check.proofs.Accepted.{clean}
use Rattle.base.specs.Answers.{overlay}
use Rattle.plan_layout.specs.declared.Sizes.{Sizes}
use Rattle.plan_layout.specs.Layout.{plan_length}
use Rattle.plan_layout.specs.Fields.{byte_in, byte_at}
use Rattle.plan_parts.specs.Read.{sizes_of}
use Rattle.plan_parts.specs.Joined.{joined_sizes}
use Rattle.plan_merge.specs.Model.{root_sizes, merged_sizes, merged_fields}
use Rattle.plan_merge.specs.Inner.{Mergeable}
use Rattle.plan_merge.proofs.Bytes.{limited, overlaid}
use Rattle.plan_merge.proofs.Calls.{limits_test, merges_first, merges_second, merges_33, merges_34, merges_15}
use Rattle.plan_merge.proofs.Calls.{merges_plan}
use Rattle.plan_merge.proofs.merge.Goals as goal
use Rattle.plan_merge.proofs.merge.Goals.{In_ok-check, In_ok-check-2, After-joined_sizes-sizes}
use Rattle.plan_merge.proofs.merge.Goals.{Else-starts_apart}

-- the sizes, joined one after another
joined : (b c : List ℕ) {h x y j s : Sizes} → h ≡ root_sizes → x ≡ sizes_of b → y ≡ sizes_of c → j ≡ joined_sizes x y
    → s ≡ joined_sizes h j → s ≡ merged_sizes b c
joined b c p q r t u = u ∙ rw (p, t, q, r)

-- both plans pass
one_passed : (c : In_ok-check) → refusal c.args.first.now ≡ 0
one_passed c = sym c.in_ok-check.ensures

other_passed : (c : In_ok-check-2) → refusal c.args.second.now ≡ 0
other_passed c = sym c.in_ok-check-2.ensures

sizes_are : (c : After-joined_sizes-sizes)
    → c.joined_sizes-sizes.result ≡ merged_sizes c.args.first.now c.args.second.now
sizes_are c = joined _ _ c.root_sizes.ensures c.sizes_of.ensures c.sizes_of-2.ensures c.joined_sizes.ensures
    c.joined_sizes-sizes.ensures

pub returns-in_err-check : goal.returns-in_err-check
returns-in_err-check c =
    let p = err_from_is_err_and c.from_residual.result c.from_residual.ensures.1 in
    rw (p.1, p.2) (merges_first _ _ _ c.in_err-check.ensures (some_number _))

pub returns-in_err-check-2 : goal.returns-in_err-check-2
returns-in_err-check-2 c =
    let p = err_from_is_err_and c.from_residual-in_err-check-2.result c.from_residual-in_err-check-2.ensures.1 in
    rw (p.1, p.2) (merges_second _ _ _
    (one_passed (goal.at.returns-in_err-check-2 c).In_ok-check) c.in_err-check-2.ensures (some_number _))

pub sizes_of-requires : goal.sizes_of-requires
sizes_of-requires c = (clean _ (one_passed (goal.at.sizes_of-requires c).In_ok-check)).fits.limits.long

pub sizes_of-requires-2 : goal.sizes_of-requires-2
sizes_of-requires-2 c = (clean _ (other_passed (goal.at.sizes_of-requires-2 c).In_ok-check-2)).fits.limits.long

pub joined_sizes-requires : goal.joined_sizes-requires
joined_sizes-requires c =
    let g = goal.at.joined_sizes-requires c in
    let x = (clean _ (one_passed g.In_ok-check)).fits.limits in
    let y = (clean _ (other_passed g.In_ok-check-2)).fits.limits in
    rw (c.sizes_of.ensures, c.sizes_of-2.ensures) (
      record {
        nodes = omega (arith, x.nodes);
        conditions = omega (arith, x.conditions);
        orders = omega (arith, x.orders);
      },
      record {
        nodes = omega (arith, y.nodes);
        conditions = omega (arith, y.conditions);
        orders = omega (arith, y.orders);
      },
    )

pub joined_sizes-sizes-requires : goal.joined_sizes-sizes-requires
joined_sizes-sizes-requires c =
    let g = goal.at.joined_sizes-sizes-requires c in
    let x = (clean _ (one_passed g.In_ok-check)).fits.limits in
    let y = (clean _ (other_passed g.In_ok-check-2)).fits.limits in
    rw (c.root_sizes.ensures, c.joined_sizes.ensures, c.sizes_of.ensures, c.sizes_of-2.ensures) (
      record { nodes = omega arith; conditions = omega arith; orders = omega arith },
      record {
        nodes = omega (arith, x.nodes, y.nodes);
        conditions = omega (arith, x.conditions, y.conditions);
        orders = omega (arith, x.orders, y.orders);
      },
    )

pub returns-then-too_large : goal.returns-then-too_large
returns-then-too_large c =
    let g = goal.at.returns-then-too_large c in
    merges_33 _ _ _ (one_passed g.In_ok-check) (other_passed g.In_ok-check-2)
    (limits_test _ _ (sizes_are g.After-joined_sizes-sizes) (sym c.too_large.ensures ∙ c.if-too_large.true))

pub starts_apart-requires : goal.starts_apart-requires
starts_apart-requires c =
    let g = goal.at.starts_apart-requires c in
    ((clean _ (one_passed g.In_ok-check)).fits, (clean _ (other_passed g.In_ok-check-2)).fits)

pub returns-then-starts_apart : goal.returns-then-starts_apart
returns-then-starts_apart c =
    let g = goal.at.returns-then-starts_apart c in
    merges_34 _ _ _ (one_passed g.In_ok-check) (other_passed g.In_ok-check-2)
    (limits_test _ _ (sizes_are g.After-joined_sizes-sizes) (sym c.too_large.ensures ∙ c.if-too_large.false))
    (sym c.starts_apart.ensures ∙ c.if-starts_apart.true)

-- what is left where 34 does not apply
mergeable : (c : Else-starts_apart) → Mergeable c.args.first.now c.args.second.now
mergeable c = record {
  first_passes = sym c.in_ok-check.ensures;
  second_passes = sym c.in_ok-check-2.ensures;
  small = limits_test _ _
      (joined _ _ c.root_sizes.ensures c.sizes_of.ensures c.sizes_of-2.ensures c.joined_sizes.ensures
      c.joined_sizes-sizes.ensures) (sym c.too_large.ensures ∙ c.if-too_large.false);
  alike = sym c.starts_apart.ensures ∙ c.if-starts_apart.false;
}

pub plan_length-end-requires : goal.plan_length-end-requires
plan_length-end-requires c =
    let g = goal.at.plan_length-end-requires c in
    rw (sizes_are g.After-joined_sizes-sizes) (limited _ _ (mergeable g.Else-starts_apart))

pub returns-then-out-end : goal.returns-then-out-end
returns-then-out-end c =
    let g = goal.at.returns-then-out-end c in
    let e = c.plan_length-end.ensures ∙ ap plan_length (sizes_are g.After-joined_sizes-sizes) in
    merges_15 _ _ _ (mergeable g.Else-starts_apart) (omega (arith, c.if-out-end.true, e))

pub write_parts-requires : goal.write_parts-requires
write_parts-requires c =
    let g = goal.at.write_parts-requires c in
    let ok = mergeable g.Else-starts_apart in
    let s = sizes_are g.After-joined_sizes-sizes in
    (rw s (limited _ _ ok), omega (arith, c.plan_length-end.ensures), λ p l. search rules)

pub returns : goal.returns
returns c =
    let g = goal.at.returns c in
    let s = sizes_are g.After-joined_sizes-sizes in
    let e = c.plan_length-end.ensures ∙ ap plan_length s in
    let f = merged_fields c.args.first.now c.args.second.now in
    merges_plan _ _ _ (mergeable g.Else-starts_apart) (omega (arith, e)) e
    (c.write_parts.ensures (byte_in f) (λ p x l h. search rules) ∙ overlaid _ _ _ _ s
    ∙ ap (λ (t : Sizes). overlay (byte_at f) (plan_length t) c.args.out.now) s)
