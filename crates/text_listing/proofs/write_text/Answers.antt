-- `write_text` meets its contract. Assumes nothing.
use mathlib.Core.Path.{ap}
use Prim.Native.Nat.{ℕ}
use lib.ListN.{length}
use Rattle.base.proofs.Zeros.{zeros}
use Rattle.tables.specs.Sizes.{NODES}
use Rattle.plan_check.proofs.Accepted.{clean}
use Rattle.verdict.specs.Verdict.{word_of}
use Rattle.text_decimals.proofs.Writes.{writes_long, writes_then, writes_same}
use Rattle.text_lines.specs.Model.{ending}
use Rattle.text_listing.specs.Text.{letters}
use Rattle.text_listing.proofs.Text.{letters_limit, root_limit, text_is}
use native.Mathlib.Omega.{arith}
use borrow.Author.Rules.{rules}
use Rattle.text_listing.proofs.write_text.Goals as goal

pub end_line-requires : goal.end_line-requires
end_line-requires c =
    let w = c.write_word.ensures in
    omega (
      arith,
      c.requires.2,
      w.wrote.next,
      writes_long w,
      letters_limit (word_of c.args.verdict),
      root_limit (clean _ c.requires.0),
      ap (λ (x : ℕ). length (ending x)) c.longest_waits-root.ensures.1,
    )

pub write_lines-requires : goal.write_lines-requires
write_lines-requires c =
    let w = c.write_word.ensures in
    let e = c.end_line.ensures in (
      c.requires.0,
      c.longest_waits-root.ensures.0,
      c.rank-k.ensures.is,
      omega (
        arith,
        c.requires.2,
        w.wrote.next,
        writes_long w,
        e.wrote.next,
        writes_long e,
        letters_limit (word_of c.args.verdict),
        root_limit (clean _ c.requires.0),
        ap (λ (x : ℕ). length (ending x)) c.longest_waits-root.ensures.1,
      ),
    )

pub returns : goal.returns
returns c =
    let word = writes_same (ap letters c.requires.1) c.write_word.ensures in
    let line = writes_same (ap ending c.longest_waits-root.ensures.1) c.end_line.ensures in
    let all = writes_same (text_is _) (writes_then (writes_then word line) c.write_lines.ensures) in
    search (rules, all.same_reference, all.wrote)

pub longest_waits-root-requires : goal.longest_waits-root-requires
longest_waits-root-requires c = (c.requires.0, c.requires.3, zeros NODES)
