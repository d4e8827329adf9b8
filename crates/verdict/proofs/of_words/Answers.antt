-- `of_words` meets its contract. Assumes nothing.
use native.Mathlib.Omega.{arith}
use borrow.Author.Rules.{rules}
use Rattle.verdict.proofs.Judging.{judged_clear, judged_doomed, judged_open}
use Rattle.verdict.proofs.of_words.Goals as goal

pub returns-then-failing-eq0 : goal.returns-then-failing-eq0
returns-then-failing-eq0 c p F w l t s = judged_clear p w l F t s c.failing.ensures c.if-failing-eq0.true

pub returns-then-failing-ne0 : goal.returns-then-failing-ne0
returns-then-failing-ne0 c p F w l t s =
    judged_doomed p w l F t s (search rules) c.failing-2.ensures c.if-failing-ne0.true

pub returns : goal.returns
returns c p F w l t s =
    judged_open p w l F t s (search rules) c.failing.ensures c.if-failing-eq0.false
    c.failing-2.ensures c.if-failing-ne0.false

pub failing-requires : goal.failing-requires
failing-requires c = (omega arith, omega arith)

pub failing-requires-2 : goal.failing-requires-2
failing-requires-2 c = (omega arith, omega arith)
