-- `write_parts` meets its contract: the bytes before i are written. Assumes nothing.
use mathlib.Core.Path.{◌≡◌}
use Prim.Native.Nat.{ℕ}
use Rattle.base.specs.Answers.{overlay}
use Rattle.plan_layout.specs.declared.Part.{Part}
use Rattle.plan_layout.specs.Layout.{part_at, PartOf}
use Rattle.plan_layout.proofs.write_parts.Given as goal

abbrev pub invariant-loop-i : goal.invariant-loop-i
invariant-loop-i g l =
    (f : Part → ℕ) → ((p : Part) (x : ℕ) → PartOf l.sizes p → goal.F-post g l.fn.byte p x → x ≡ f p)
    → l.out ≡ overlay (λ k. f (part_at l.sizes k)) l.i l.initial.out
