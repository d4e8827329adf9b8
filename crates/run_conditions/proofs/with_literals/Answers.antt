-- `run_conditions::with_literals` meets its contract. Assumes nothing.
use mathlib.Core.Path.{◌≡◌, sym, ap, ◌∙◌}
use mathlib.Core.List.{List}
use Prim.Native.Nat.{ℕ, ◌+◌, ◌-◌}
use native.Mathlib.Omega.{arith}
use Rattle.plan_check.proofs.Accepted.{clean}
use Rattle.run_state.specs.Made.{literals, made}
use Rattle.node_sets.specs.Sets.{marked}
use Rattle.run_conditions.proofs.Literals.{literals_none, literals_turn, literals_kept}
use Rattle.run_conditions.proofs.with_literals.Goals as goal
use Rattle.run_conditions.proofs.with_literals.Goals.{Start}

-- the literals among the first i conditions, made true in the flags z
abbrev left : Start → ℕ → List ℕ → List ℕ
left s i z = literals s.args.plan.now s.args.place (marked s.args.tasks.now) i z

pub conditions-i-requires : goal.conditions-i-requires
conditions-i-requires c = (clean _ c.requires).fits.limits.long

pub loop-i-init : goal.loop-i-init
loop-i-init c = rw c.conditions-i.ensures

pub is_of-requires : goal.is_of-requires
is_of-requires c = (omega arith, c.requires)

pub flag_at-requires : goal.flag_at-requires
flag_at-requires c = (omega arith, c.requires)

pub set_at-requires : goal.set_at-requires
set_at-requires c = (omega arith, c.requires)

pub loop-i-preserved-then-is_of : goal.loop-i-preserved-then-is_of
loop-i-preserved-then-is_of c =
    let z = c.loop-i.next.bytes in
    let k : c.loop-i.i ≡ c.loop-i.i - 1 + 1 = omega arith in
    c.loop-i.invariant ∙ ap (λ (i : ℕ). left (goal.at.loop-i-preserved-then-is_of c).Start i z) k
    ∙ literals_turn c.args.plan.now c.args.place (marked c.args.tasks.now) (c.loop-i.i - 1) z _ _ c.flag_at.ensures.0
    c.set_at.ensures (sym c.is_of.ensures ∙ c.if-is_of.true)
    ∙ ap (left (goal.at.loop-i-preserved-then-is_of c).Start (c.loop-i.i - 1)) (sym c.with-next.ensures)

pub loop-i-preserved : goal.loop-i-preserved
loop-i-preserved c =
    let z = c.loop-i.next.bytes in
    let k : c.loop-i.i ≡ c.loop-i.i - 1 + 1 = omega arith in
    c.loop-i.invariant ∙ ap (λ (i : ℕ). left (goal.at.loop-i-preserved c).Start i z) k
    ∙ literals_kept c.args.plan.now c.args.place (marked c.args.tasks.now) (c.loop-i.i - 1) z
    (sym c.is_of.ensures ∙ c.if-is_of.false)

pub returns : goal.returns
unfolding made
returns c =
    let e : c.loop-i.i ≡ 0 = omega arith in
    sym (c.loop-i.invariant ∙ ap (λ (i : ℕ). left (goal.at.returns c).Start i c.loop-i.next.bytes) e
    ∙ literals_none _ _ _ _)
