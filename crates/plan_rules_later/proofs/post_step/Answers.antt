-- `plan_rules_later::post_step` meets its contract. Assumes nothing.
use native.Mathlib.Omega.{arith}
use Prim.Native.Nat.{◌≤◌}
use Rattle.plan_rules.proofs.Causes.{usable}
use Rattle.plan_codes.specs.Values.{flag_of}
use Rattle.plan_rules_later.specs.Passes.{post_step}
use Rattle.plan_rules_later.proofs.post_step.Goals as goal
use Rattle.plan_rules_later.proofs.post_step.Goals.{After-condition_value-v}

-- the value that was read is not refused
small : (c : After-condition_value-v) → c.condition_value-v.result ≤ 383
small c = omega (
  arith,
  (usable c.args.plan.now c.requires.1.0
      c.requires.1.1).value c.args.i c.requires.0,
)

pub place_of-place-requires : goal.place_of-place-requires
place_of-place-requires c = small (goal.at.place_of-place-requires c).After-condition_value-v

pub flag_of-flag-requires : goal.flag_of-flag-requires
flag_of-flag-requires c = small (goal.at.flag_of-flag-requires c).After-condition_value-v

pub overflow_cast-flag : goal.overflow_cast-flag
unfolding flag_of
overflow_cast-flag c = omega (arith, small (goal.at.overflow_cast-flag c).After-condition_value-v)

pub overflow_add-result : goal.overflow_add-result
overflow_add-result c =
    omega (arith, (usable c.args.plan.now c.requires.1.0 c.requires.1.1).node c.args.i c.requires.0)

pub returns : goal.returns
unfolding post_step
returns c = rw (
  c.then_some.ensures,
  c.then_some-2.ensures,
  c.condition_node.ensures,
  c.flag_of-flag.ensures,
  c.place_of-place.ensures,
  c.condition_value-v.ensures,
)

pub condition_value-v-requires : goal.condition_value-v-requires
condition_value-v-requires c = (c.requires.0, c.requires.1.0)

pub condition_node-requires : goal.condition_node-requires
condition_node-requires c = (c.requires.0, c.requires.1.0)
