-- `run_conditions::unmet_at` meets its contract. Assumes nothing.
use mathlib.Core.Path.{sym, ◌∙◌}
use Rattle.run_conditions.specs.Conditions.{unmet_at}
use Rattle.run_conditions.proofs.unmet_at.Goals as goal

pub returns-then-is_of : goal.returns-then-is_of
unfolding unmet_at
returns-then-is_of c = rw (
  sym c.is_of.ensures ∙ c.if-is_of.true,
  c.differs.ensures,
  c.set_at.ensures,
  c.has.ensures,
  c.flag_at.ensures.0,
)

pub returns-else-is_of : goal.returns-else-is_of
unfolding unmet_at
returns-else-is_of c = rw (sym c.is_of.ensures ∙ c.if-is_of.false) c.if-is_of.false
