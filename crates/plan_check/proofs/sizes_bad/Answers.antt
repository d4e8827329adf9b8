-- `plan_check::sizes_bad` meets its contract. Assumes nothing.
use Rattle.plan_rules.specs.Rules.{cause2}
use Rattle.plan_check.proofs.sizes_bad.Goals as goal

pub returns : goal.returns
unfolding cause2
returns c = rw (
  c.flags-v.ensures,
  c.orders-k.ensures,
  c.conditions-c.ensures,
  c.nodes-n.ensures,
)

pub nodes-n-requires : goal.nodes-n-requires
nodes-n-requires c = c.requires

pub conditions-c-requires : goal.conditions-c-requires
conditions-c-requires c = c.requires

pub orders-k-requires : goal.orders-k-requires
orders-k-requires c = c.requires

pub flags-v-requires : goal.flags-v-requires
flags-v-requires c = c.requires
