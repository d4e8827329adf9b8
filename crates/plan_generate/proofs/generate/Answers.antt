-- `generate` meets its contract. Assumes nothing.
use mathlib.Core.Path.{◌≡◌, refl, sym, ap, ◌∙◌}
use mathlib.Core.Bool.{false}
use Prim.Native.Nat.{ℕ}
use native.Mathlib.Omega.{arith}
use Rattle.std.proofs.Common.{rules}
use Rattle.base.specs.Answers.{overlay}
use Rattle.plan_layout.specs.Fields.{byte_in, byte_at}
use Rattle.plan_generate.specs.Model.{generated, refused30}
use Rattle.plan_draws.specs.declared.Recipe.{Recipe}
use Rattle.plan_draws.specs.Drawn.{Allowed}
use Rattle.plan_generate.proofs.Bytes.{sizes_fit, length_is, prepared, limited, overlaid}
use Rattle.plan_generate.proofs.Calls.{allowed, generates_30, generates_15, generates_plan}
use Rattle.plan_generate.proofs.generate.Goals as goal
use Rattle.plan_generate.proofs.generate.Goals.{Else-refused}

pub returns-then-refused : goal.returns-then-refused
returns-then-refused c = generates_30 _ _ (sym c.refused.ensures ∙ c.if-refused.true)

-- what is left where 30 does not apply
abbrev recipe : Else-refused → Recipe
recipe c = let a = c.args in record { seed = a.seed; groups = a.groups; tasks = a.tasks }

passes : (c : Else-refused) → refused30 (recipe c) ≡ false
passes c = sym c.refused.ensures ∙ c.if-refused.false

ok : (c : Else-refused) → Allowed (recipe c)
ok c = allowed (recipe c) (passes c)

pub find_orders-orders-requires : goal.find_orders-orders-requires
find_orders-orders-requires c = (ok (goal.at.find_orders-orders-requires c).Else-refused, c.draw_all.ensures, refl)

pub overflow_add-sizes : goal.overflow_add-sizes
overflow_add-sizes c = omega (arith, (ok (goal.at.overflow_add-sizes c).Else-refused).few_groups)

pub overflow_add-sizes-2 : goal.overflow_add-sizes-2
overflow_add-sizes-2 c =
    let k = ok (goal.at.overflow_add-sizes-2 c).Else-refused in
    omega (arith, k.few_groups, k.few_tasks)

pub overflow_mul-sizes : goal.overflow_mul-sizes
overflow_mul-sizes c = omega (arith, (ok (goal.at.overflow_mul-sizes c).Else-refused).few_tasks)

pub plan_length-end-requires : goal.plan_length-end-requires
plan_length-end-requires c =
    let e = (goal.at.plan_length-end-requires c).Else-refused in
    sizes_fit (recipe e) c.find_orders-orders.ensures (ok e)

pub write_parts-requires : goal.write_parts-requires
write_parts-requires c =
    let e = (goal.at.write_parts-requires c).Else-refused in
    let p = prepared (recipe e) c.find_orders-orders.ensures (ok e) c.draw_all.ensures in
    (limited p, omega arith, λ q l. search rules)

pub returns-then-out-end : goal.returns-then-out-end
returns-then-out-end c =
    let e = (goal.at.returns-then-out-end c).Else-refused in
    generates_15 (recipe e) _ (passes e)
    (omega (arith, c.if-out-end.true, length_is (recipe e) c.find_orders-orders.ensures c.plan_length-end.ensures))

pub returns : goal.returns
returns c =
    let e = (goal.at.returns c).Else-refused in
    let n = length_is (recipe e) c.find_orders-orders.ensures c.plan_length-end.ensures in
    let m = length_is (recipe e) c.find_orders-orders.ensures refl in
    let p = prepared (recipe e) c.find_orders-orders.ensures (ok e) c.draw_all.ensures in
    generates_plan (recipe e) _ (passes e) n (omega arith)
    (c.write_parts.ensures (byte_in (generated (recipe e))) (λ q x l h. search rules)
    ∙ overlaid p _ _ ∙ ap (λ (k : ℕ). overlay (byte_at (generated (recipe e))) k c.args.out.now) m)
