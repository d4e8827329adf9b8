-- `new_byte` meets its contract. Assumes nothing.
use mathlib.Core.Path.{refl}
use mathlib.Core.Logic.{⊎_elim}
use native.Mathlib.Omega.{arith}
use borrow.Author.Tests.{ltb-true}
use Rattle.plan_layout.specs.declared.Part.TheVariants.{Name, Parent, Kind, MinutesLow, MinutesHigh}
use Rattle.plan_merge.proofs.Bytes.{whole_first, whole_second, limited, of_root}
use Rattle.plan_merge.proofs.new_byte.Goals as goal

pub size_byte-requires : goal.size_byte-requires
size_byte-requires c = rw c.requires.1 (limited _ _ c.requires.0)

pub flags-requires : goal.flags-requires
flags-requires c = (whole_first _ _ c.requires.0).limits.long

pub flags-requires-in-Start : goal.flags-requires-in-Start
flags-requires-in-Start c = (whole_second _ _ c.requires.0).limits.long

pub bounds-second-k : goal.bounds-second-k
bounds-second-k c = omega (
  arith,
  ltb-true c.in-Start.k 8 (rw c.in-Start.is at c.requires.2),
  (whole_second _ _ c.requires.0).limits.long,
)

pub bounds-first-k : goal.bounds-first-k
bounds-first-k c = omega (
  arith,
  ltb-true c.in-Start.k 8 (rw c.in-Start.is at c.requires.2),
  (whole_first _ _ c.requires.0).limits.long,
)

pub returns-in-Name : goal.returns-in-Name
returns-in-Name c = of_root _ _ _ (Name c.in-Name.k) c.in-Name.is tt c.requires.2 refl

pub returns-in-Parent : goal.returns-in-Parent
returns-in-Parent c = of_root _ _ _ (Parent c.in-Parent.field-0) c.in-Parent.is tt c.requires.2 refl

pub returns-in-Kind : goal.returns-in-Kind
returns-in-Kind c = of_root _ _ _ (Kind c.in-Kind.field-0) c.in-Kind.is tt c.requires.2 refl

pub returns-in-MinutesLow : goal.returns-in-MinutesLow
returns-in-MinutesLow c =
    ⊎_elim (λ w. of_root _ _ _ (MinutesLow w.0) w.1 tt c.requires.2 refl)
    (λ w. of_root _ _ _ (MinutesHigh w.0) w.1 tt c.requires.2 refl) c.in-MinutesLow.is
