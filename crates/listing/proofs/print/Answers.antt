-- `print` meets its contract. Assumes nothing.
use mathlib.Core.Path.{ap, ◌∙◌}
use Prim.Native.Nat.{◌≤◌}
use lib.ListN.{length}
use Rattle.text_decimals.proofs.Writes.{writes_long, writes_then, writes_same}
use Rattle.text_lines.proofs.Text.{ending_limit}
use Rattle.listing.proofs.Printed.{refused_is}
use Rattle.listing.proofs.Answers.{text_answered, refused_answered, prints}
use native.Mathlib.Omega.{arith}
use borrow.Author.Rules.{rules}
use Rattle.listing.proofs.print.Goals as goal

pub end_line-requires : goal.end_line-requires
end_line-requires c =
    let l : 2048 ≤ length c.args.out.now = search rules in
    let w = refused_answered _ _ c.from.ensures l c.in-Err.ensures in
    let b = c.write_bytes.ensures in
    omega (arith, l, b.wrote.next, writes_long b, ap length w.2, ending_limit c.from.result (omega (arith, w.0)))

pub returns-in-Err : goal.returns-in-Err
returns-in-Err c =
    let l : 2048 ≤ length c.args.out.now = search rules in
    let w = refused_answered _ _ c.from.ensures l c.in-Err.ensures in
    let all = writes_same (refused_is _ ∙ w.1) (writes_then c.write_bytes.ensures c.end_line.ensures) in
    prints _ l (rw w.2 at all.wrote)

pub returns-in-Ok : goal.returns-in-Ok
returns-in-Ok c =
    let l : 2048 ≤ length c.args.out.now = search rules in
    prints _ l (text_answered _ _ c.in-Ok.ensures)
