-- Every byte of fields that obey the rules is below 256. Assumes nothing.
use mathlib.Core.Path.{◌≡◌}
use mathlib.Core.Logic.{⊎_elim, by_cases}
use mathlib.Core.Bool.{true, ◌&&◌, ◌||◌}
use Prim.Native.Nat.{ℕ, ◌<◌}
use native.Mathlib.Decide.{ℕ_discrete}
use native.Mathlib.Omega.{arith}
use lib.Dec.{eqb, leb}
use borrow.Author.Tests.{eqb-true, leb-true}
use Rattle.base.proofs.Booleans.{or_split, and_both}
use Rattle.plan_codes.specs.Names.{name_allowed}
use Rattle.plan_layout.specs.declared.Part.{Part}
use Rattle.plan_layout.specs.declared.Part.TheVariants.{Size, Start, Name, Parent, Kind, MinutesLow, MinutesHigh, Task}
use Rattle.plan_layout.specs.declared.Part.TheVariants.{ValueLow, ValueHigh, Earlier, Later}
use Rattle.plan_layout.specs.Layout.{PartOf}
use Rattle.plan_layout.specs.Fields.{Fields, byte_in}
use Rattle.plan_layout.proofs.Valid.{Valid}
use Rattle.plan_parts.proofs.Joined.{PastStart}

name_small : (x : ℕ) → name_allowed x ≡ true → x < 256
unfolding name_allowed
name_small x h =
    ⊎_elim (λ d. omega (arith, leb-true x 57 (and_both (leb 48 x) (leb x 57) d).1))
    (λ e. ⊎_elim (λ d. omega (arith, leb-true x 90 (and_both (leb 65 x) (leb x 90) d).1))
    (λ d. omega (arith, eqb-true x 45 d))
    (or_split (leb 65 x && leb x 90) (eqb x 45) e))
    (or_split (leb 48 x && leb x 57) ((leb 65 x && leb x 90) || eqb x 45) h)

module _ (f : Fields) (v : Valid f) where
  parent_small : (n : ℕ) → n < f.sizes.nodes → f.parent n < 256
  parent_small n l =
      by_cases (ℕ_discrete n 0) (λ (e : n ≡ 0). rw e (omega (arith, v.root)))
      (λ z. let (x, y) = v.parents n (omega arith) l in omega (arith, v.limited.nodes))

  pub byte_small : (p : Part) → PastStart p → PartOf f.sizes p → byte_in f p < 256
  byte_small (Size i) z l = absurd z
  byte_small (Start k) z l = absurd z
  byte_small (Name k) z l = name_small (f.name k) (v.names k l)
  byte_small (Parent n) z l = parent_small n l
  byte_small (Kind n) z l = omega (arith, v.kinds n l)
  byte_small (MinutesLow n) z l = omega arith
  byte_small (MinutesHigh n) z l = omega (arith, v.few_minutes n l)
  byte_small (Task i) z l = let (x, y) = v.on_task i l in omega (arith, v.limited.nodes)
  byte_small (ValueLow i) z l = omega arith
  byte_small (ValueHigh i) z l = let (x, y) = v.values i l in omega arith
  byte_small (Earlier j) z l = let (a, b, d, p, q) = v.siblings j l in omega (arith, v.limited.nodes)
  byte_small (Later j) z l = let (a, b, d, p, q) = v.siblings j l in omega (arith, v.limited.nodes)
