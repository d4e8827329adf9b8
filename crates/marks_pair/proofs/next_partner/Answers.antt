-- `next_partner` meets its contract, where it passes over all partners. Assumes nothing.
use mathlib.Core.Path.{refl}
use mathlib.Core.Logic.{inr}
use Rattle.marks_pair.proofs.Pairs.{unconcerned}
use Rattle.marks_pair.proofs.next_partner.Goals as goal

pub returns-then-wanted-clear-eq0 : goal.returns-then-wanted-clear-eq0
returns-then-wanted-clear-eq0 c =
    inr (
      refl,
      unconcerned _ _ _ _ _ _ _ c.word_at.ensures c.word_at-2.ensures
          c.word_at-3.ensures c.word_at-4.ensures
          c.if-wanted-clear-eq0.true,
    )
