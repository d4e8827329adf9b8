-- `must_post` meets its contract. Assumes nothing.
use Rattle.marks_row.proofs.Musts.{must_post_says}
use Rattle.marks_row.proofs.must_post.Goals as goal

pub returns : goal.returns
returns c = λ p w r v e f l. must_post_says w r v _ e f l c.neither.ensures
