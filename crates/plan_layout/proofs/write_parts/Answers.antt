-- `write_parts` meets its contract: the bytes before i are written. Assumes nothing.
use mathlib.Core.Path.{◌≡◌, ap, ◌∙◌}
use Prim.Native.Nat.{ℕ}
use native.Mathlib.Omega.{arith}
use Rattle.base.specs.Answers.{overlay}
use Rattle.base.proofs.Overlay.{overlay_none, overlay_more}
use Rattle.plan_layout.specs.Layout.{plan_length, part_at}
use Rattle.plan_layout.proofs.Parts.{part_of}
use Rattle.plan_layout.proofs.write_parts.Goals as goal

pub loop-i-init : goal.loop-i-init
loop-i-init g c = λ f gives. overlay_none _ _

pub byte-requires : goal.byte-requires
byte-requires g c = c.requires.2 c.part_at.result (rw c.part_at.ensures (part_of c.args.sizes c.loop-i.i (omega arith)))

pub loop-i-preserved : goal.loop-i-preserved
loop-i-preserved g c = λ f gives.
    let part = part_of c.args.sizes c.loop-i.i (omega arith) in
    let e = gives c.part_at.result c.byte.result (rw c.part_at.ensures part) c.byte.ensures ∙ ap f c.part_at.ensures in
    rw (c.loop-i.invariant f gives, e) (overlay_more _ _ _)

pub returns : goal.returns
returns g c = λ f gives.
    let e : c.loop-i.i ≡ plan_length c.args.sizes = omega arith in
    c.loop-i.invariant f gives ∙ ap (λ (n : ℕ). overlay (λ i. f (part_at c.args.sizes i)) n c.args.out.now) e
