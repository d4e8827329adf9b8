-- `marks_and_children` meets its contract. Assumes nothing.
use native.Mathlib.Omega.{arith}
use Rattle.base.proofs.Zeros.{zeros}
use Rattle.tables.specs.Sizes.{NODES, PAIRS, CONDITIONS}
use Rattle.plan_check.proofs.Accepted.{clean}
use Rattle.plan_check.proofs.Meaning.{means_well_formed}
use Rattle.runs.proofs.Blocked.Branches.{blocked_well_formed}
use Rattle.table_marks.proofs.Filled.{FilledBy, by_tables, by_among}
use Rattle.table_marks.proofs.marks_and_children.Goals as goal
use Rattle.table_marks.proofs.marks_and_children.Goals.{Joined-among, then-among, else-among}

filled : (c : Joined-among) → let a = c.args in
    FilledBy a.plan.now a.standing.now a.among c.if-among.kind c.if-among.from c.if-among.kids c.if-among.order
    c.if-among.conds
filled c = elim c.if-among.branch [
  | then-among w ↦ by_among w.kind-is w.from-is w.kids-is w.order-is w.conds-is w.if-among.true w.fill_among.ensures
  | else-among w ↦ by_tables w.kind-is w.from-is w.kids-is w.order-is w.conds-is w.if-among.false w.fill_tables.ensures
]

pub nodes-n-requires : goal.nodes-n-requires
nodes-n-requires c = (clean _ c.requires.0).fits.limits.long

pub node_words-requires : goal.node_words-requires
node_words-requires c =
    let p = c.requires in
    let n = c.nodes-n.ensures in (
      record {
        shaped = rw n (filled (goal.at.node_words-requires c).Joined-among).children.shaped;
        below = rw n (clean _ p.0).fits.limits.some_node;
      },
      omega (arith, p.1, (clean _ p.0).fits.limits.nodes),
    )

pub returns : goal.returns
returns c =
    let ok = c.requires.0 in
    let n = c.nodes-n.ensures in
    let t = filled (goal.at.returns c).Joined-among in
    record {
      all_orders = λ e S k h l. c.node_words.ensures _ (blocked_well_formed _ (means_well_formed _ ok) S k)
          (rw n (t.all_orders e S k h)) l;
      among_orders = λ e S w h l. c.node_words.ensures _ w (rw n (t.among_orders e S h)) l;
      children = t.children;
    }

pub fill_among-requires : goal.fill_among-requires
fill_among-requires c = (
  c.requires.0,
  record {
    no_kinds = zeros NODES;
    no_starts = c.requires.2;
    no_kids = c.requires.3;
    no_order = zeros PAIRS;
    no_conditions = zeros CONDITIONS;
  },
)

pub fill_tables-requires : goal.fill_tables-requires
fill_tables-requires c = (
  c.requires.0,
  record {
    no_kinds = zeros NODES;
    no_starts = c.requires.2;
    no_kids = c.requires.3;
    no_order = zeros PAIRS;
    no_conditions = zeros CONDITIONS;
  },
)
