-- The numbers of the kinds of nodes (01; 02: 3, perhaps). Definitions only.
use Rattle.std.specs.Prelude.{ℕ}
use Rattle.base.specs.declared.kinds.Kind.{Kind}
use Rattle.base.specs.declared.kinds.Kind.TheVariants.{Task, AllOf, AnyOf, Optional}

abbrev pub kind_code : Kind → ℕ
kind_code Task = 0
kind_code AllOf = 1
kind_code AnyOf = 2
kind_code Optional = 3
