-- `must_pre` meets its contract. Assumes nothing.
use Rattle.marks_row.proofs.Musts.{must_pre_says}
use Rattle.marks_row.proofs.must_pre.Goals as goal

pub returns : goal.returns
returns c = λ p w m r v e f l. must_pre_says w r v _ e f l m c.neither.ensures
