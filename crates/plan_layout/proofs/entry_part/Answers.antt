-- `entry_part` meets its contract. Assumes nothing.
use native.Mathlib.Omega.{arith}
use Rattle.plan_layout.proofs.Parts.{entry_parent, entry_kind, entry_low, entry_high}
use Rattle.plan_layout.proofs.entry_part.Goals as goal

pub returns-in-0 : goal.returns-in-0
returns-in-0 c = entry_parent _ (omega arith)

pub returns-in-1 : goal.returns-in-1
returns-in-1 c = entry_kind _ (omega arith)

pub returns-in-2 : goal.returns-in-2
returns-in-2 c = entry_low _ (omega arith)

pub returns-in_default : goal.returns-in_default
returns-in_default c = entry_high _ (omega arith)
