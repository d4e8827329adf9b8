-- `work_out` meets its contract: all is under the root. Assumes nothing.
use mathlib.Core.Path.{sym, ◌∙◌}
use Rattle.plan_check.proofs.Accepted.{clean}
use Rattle.wait_tree.proofs.Groups.{all_group, any_group, root_worked, root_task}
use Rattle.wait_tree.proofs.work_out.Goals as goal

pub kind-root-requires : goal.kind-root-requires
kind-root-requires c = let ok = clean _ c.requires.0 in
    (ok.fits.limits.some_node, ok.fits)

pub all_length-requires : goal.all_length-requires
all_length-requires c = (
  all_group c.requires.0 c.requires.1 (clean _ c.requires.0).fits.limits.some_node
      c.kind-root.ensures c.if-root.true,
  c.task_lengths.ensures,
)

pub any_length-requires : goal.any_length-requires
any_length-requires c = (
  any_group c.requires.0 c.requires.1 (clean _ c.requires.0).fits.limits.some_node
      c.kind-root.ensures c.if-root.false c.if-root-2.true,
  c.task_lengths.ensures,
)

pub returns-then-root : goal.returns-then-root
returns-then-root c = root_worked c.requires.0 c.all_length.ensures

pub returns-then-root-2 : goal.returns-then-root-2
returns-then-root-2 c = root_worked c.requires.0 c.any_length.ensures

pub returns-else-root-2 : goal.returns-else-root-2
returns-else-root-2 c =
    root_task c.requires.0 c.task_lengths.ensures (sym c.kind-root.ensures ∙ c.if-root-2.false)
