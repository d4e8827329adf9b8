-- `mark_words` meets its contract, word by word. Assumes nothing.
use mathlib.Core.Path.{refl}
use native.Mathlib.Omega.{arith}
use borrow.Author.Rules.{rules}
use Rattle.runs.proofs.Plan.Numbers.{sign_small}
use Rattle.base.proofs.FromFn.{made}
use Rattle.marks_words.specs.Words.{WordIs, word_index}
use Rattle.marks_words.proofs.WordColumns.{mark_small}
use Rattle.marks_words.proofs.mark_words.Goals as goal

pub returns : goal.returns
returns c =
    let word = made (WordIs c.args.rows.now c.args.node) c.from_fn.ensures.items (λ k y q x. search rules) in
    λ p w n r. record {
      says = λ v m f l. word (word_index v m) (omega (arith, sign_small v, mark_small m)) p w n r v m refl f l;
    }
