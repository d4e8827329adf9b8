-- `plan_rules_later::refuses` meets its contract. Assumes nothing.
use mathlib.Core.Path.{◌∙◌, ap, sym}
use Rattle.std.proofs.Common.{arith, rules, ◌≡◌, ◌-◌, Some, length-set}
use Rattle.plan_rules_later.proofs.Table.{tried_none, tried_finds, tried_keeps, tried_writes, tried_all}
use Rattle.plan_rules_later.proofs.Backward.{pass_finds}
use Rattle.plan_rules_later.proofs.refuses.Goals as goal

pub loop-i-init : goal.loop-i-init
loop-i-init g c = (omega arith, omega arith, λ s takes. tried_none c.args.n s)

pub returns-then-refused : goal.returns-then-refused
returns-then-refused g c = λ s takes o.
    let l = c.loop-i in
    tried_finds (l.invariant.2 s takes) l.invariant.0 (omega arith)
    (takes (l.i - 1) c.step-s.result (omega arith) c.step-s.ensures) c.refused.ensures c.if-refused.true
    ∙ pass_finds c.args.n s o

pub loop-i-preserved-in-Some : goal.loop-i-preserved-in-Some
loop-i-preserved-in-Some g c = (
  omega arith,
  length-set _ _ _ ∙ c.loop-i.invariant.1,
  λ s takes.
      let l = c.loop-i in
      tried_writes (l.invariant.2 s takes) l.invariant.0 (omega arith)
      (takes (l.i - 1) c.step-s.result (omega arith) c.step-s.ensures) c.refused.ensures c.if-refused.false
      (c.in-Some.is ∙ ap Some (sym c.from.ensures)) (search rules),
)

pub loop-i-preserved : goal.loop-i-preserved
loop-i-preserved g c = (
  omega arith,
  c.loop-i.invariant.1,
  λ s takes.
      let l = c.loop-i in
      tried_keeps (l.invariant.2 s takes) l.invariant.0 (omega arith)
      (takes (l.i - 1) c.step-s.result (omega arith) c.step-s.ensures) c.refused.ensures c.if-refused.false
      c.in_default.is,
)

pub returns : goal.returns
returns g c = λ s takes o.
    let z : c.loop-i.i ≡ 0 = omega arith in
    tried_all (rw z at (c.loop-i.invariant.2 s takes)) ∙ pass_finds c.args.n s o
