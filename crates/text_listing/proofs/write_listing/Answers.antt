-- `write_listing` meets its contract: every node is marked, so what is left is the whole plan. Assumes nothing.
use Rattle.base.proofs.Zeros.{zeros}
use Rattle.tables.specs.Sizes.{NODES, STARTS}
use mathlib.Core.Path.{refl}
use Rattle.plan_check.proofs.Accepted.{clean}
use Rattle.table_children.proofs.Whole.{whole_tree}
use Rattle.verdict.proofs.Judging.{of_marks, whole_verdict}
use Rattle.text_listing.proofs.write_listing.Goals as goal

pub marks_and_children-words-requires : goal.marks_and_children-words-requires
marks_and_children-words-requires c =
    let p = c.requires in
    (p.0, (clean _ p.0).fits.limits.some_node, zeros STARTS, zeros NODES)

pub write_text-requires : goal.write_text-requires
write_text-requires c =
    let p = c.requires in
    let all = c.all_nodes-standing.ensures in
    let f = c.marks_and_children-words.ensures in
    let verdict = c.of_words-verdict.result in (
      p.0,
      whole_verdict _ p.0 _ all verdict
          (of_marks verdict p.0 (f.all_orders refl) c.start_word-start.ensures c.of_words-verdict.ensures),
      p.1,
      whole_tree _ _ p.0 all f.children,
    )
