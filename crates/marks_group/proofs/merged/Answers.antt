-- `merged` meets its contract: each word is put together. Assumes nothing.
use borrow.Author.Rules.{rules}
use lib.ListN.{get_or}
use Rattle.marks_row.specs.Columns.{word_at}
use Rattle.marks_group.specs.Groups.{JoinedWord}
use Rattle.base.proofs.FromFn.{made}
use Rattle.marks_group.proofs.merged.Goals as goal

pub returns : goal.returns
returns c = record {
  words = made
      (λ k r. JoinedWord c.args.every.first c.args.every.last k (get_or c.args.words k 0)
      (word_at c.args.rows.now c.args.child k) (get_or c.args.mask k 0) r)
      c.from_fn.ensures.items (λ k y q r. search rules);
}
