-- `ored` meets its contract, word by word. Assumes nothing.
use mathlib.Core.Path.{◌≡◌}
use lib.Bits.{bit_or}
use lib.ListN.{get_or}
use borrow.Author.Rules.{rules}
use Rattle.base.proofs.FromFn.{made}
use Rattle.marks_tree.proofs.ored.Goals as goal

pub returns : goal.returns
returns c = record {
  is = made (λ k y. y ≡ bit_or (get_or c.args.a k 0) (get_or c.args.b k 0)) c.from_fn.ensures.items
      (λ k y q x. search rules);
}
