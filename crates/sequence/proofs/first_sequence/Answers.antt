-- `first_sequence` meets its contract. Assumes nothing.
use Rattle.base.proofs.Zeros.{zeros}
use Rattle.marks_row.specs.Columns.{ROWS}
use Rattle.plan_check.proofs.Accepted.{clean}
use Rattle.tables.specs.Sizes.{NODES, STARTS, PAIRS, CONDITIONS}
use Rattle.sequence.proofs.Tables.{at_root, not_all, in_order, in_range, too_many, below}
use Rattle.sequence.proofs.first_sequence.Goals as goal
use Rattle.sequence.proofs.first_sequence.Goals.{then-kind-via-then-kind}
use Rattle.sequence.proofs.first_sequence.Goals.{then-kind-via-else-kind+then-segment-gt-CHILDREN}

pub fill_among-requires : goal.fill_among-requires
fill_among-requires c = (
  c.requires,
  record {
    no_kinds = zeros NODES;
    no_starts = zeros STARTS;
    no_kids = zeros NODES;
    no_order = zeros PAIRS;
    no_conditions = zeros CONDITIONS;
  },
)

pub overflow_sub-segment : goal.overflow_sub-segment
overflow_sub-segment c =
    in_order c.requires c.all_nodes-standing.ensures c.fill_among.ensures c.children-segment.ensures

pub returns-then-kind : goal.returns-then-kind
returns-then-kind c =
    elim c.then-kind.branch [
      | then-kind-via-then-kind w ↦
          not_all c.requires c.all_nodes-standing.ensures c.fill_among.ensures w.if-kind.true
      | then-kind-via-else-kind+then-segment-gt-CHILDREN w ↦
          too_many c.requires c.all_nodes-standing.ensures c.fill_among.ensures c.children-segment.ensures
          w.if-segment-gt-CHILDREN.true
    ]

pub nodes-n-requires : goal.nodes-n-requires
nodes-n-requires c = (clean _ c.requires).fits.limits.long

pub rows_below-requires : goal.rows_below-requires
rows_below-requires c = (
  at_root c.requires c.all_nodes-standing.ensures c.fill_among.ensures c.nodes-n.ensures,
  (zeros ROWS).long,
)

pub first_among-requires : goal.first_among-requires
first_among-requires c =
    in_range c.requires c.all_nodes-standing.ensures c.fill_among.ensures c.children-segment.ensures
    c.if-segment-gt-CHILDREN.false

pub returns : goal.returns
returns c =
    c.first_among.ensures _ _ (below c.requires c.all_nodes-standing.ensures c.fill_among.ensures
    c.children-segment.ensures c.if-kind.false c.nodes-n.ensures c.rows_below.ensures)
    c.start_word-start.ensures
