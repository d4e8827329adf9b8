-- `failing` meets its contract. Assumes nothing.
use mathlib.Core.Path.{refl}
use Rattle.marks_words.proofs.WordColumns.{failing_says}
use Rattle.marks_words.proofs.failing.Goals as goal

pub returns : goal.returns
returns c = λ p F w s m k i j f l. failing_says w s m k i j refl refl refl refl f l
