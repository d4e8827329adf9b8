-- `plan_rules_later::sign_step` meets its contract. Assumes nothing.
use native.Mathlib.Omega.{arith}
use Prim.Native.Nat.{◌≤◌}
use Rattle.plan_rules.proofs.Causes.{usable}
use Rattle.plan_codes.specs.Values.{flag_of, place_of}
use Rattle.plan_rules_later.specs.Passes.{sign_step, slot_of}
use Rattle.plan_rules_later.proofs.sign_step.Goals as goal
use Rattle.plan_rules_later.proofs.sign_step.Goals.{After-condition_value-v}

-- the value that was read is not refused
small : (c : After-condition_value-v) → c.condition_value-v.result ≤ 383
small c = omega (
  arith,
  (usable c.args.plan.now c.requires.1.0
      c.requires.1.1).value c.args.i c.requires.0,
)

pub sign_of-sign-requires : goal.sign_of-sign-requires
sign_of-sign-requires c = small (goal.at.sign_of-sign-requires c).After-condition_value-v

pub place_of-requires : goal.place_of-requires
place_of-requires c = small (goal.at.place_of-requires c).After-condition_value-v

pub overflow_mul-slot : goal.overflow_mul-slot
unfolding place_of
overflow_mul-slot c = omega (arith, small (goal.at.overflow_mul-slot c).After-condition_value-v)

pub flag_of-requires : goal.flag_of-requires
flag_of-requires c = small (goal.at.flag_of-requires c).After-condition_value-v

pub overflow_add-slot : goal.overflow_add-slot
unfolding place_of flag_of
overflow_add-slot c = omega (arith, small (goal.at.overflow_add-slot c).After-condition_value-v)

pub overflow_cast-slot : goal.overflow_cast-slot
unfolding place_of flag_of
overflow_cast-slot c = omega (arith, small (goal.at.overflow_cast-slot c).After-condition_value-v)

pub overflow_add-result : goal.overflow_add-result
overflow_add-result c =
    omega (arith, (usable c.args.plan.now c.requires.1.0 c.requires.1.1).node c.args.i c.requires.0)

pub returns : goal.returns
unfolding sign_step slot_of
returns c = rw (
  c.then_some.ensures,
  c.then_some-2.ensures,
  c.condition_node.ensures,
  c.flag_of.ensures,
  c.place_of.ensures,
  c.sign_of-sign.ensures,
  c.condition_value-v.ensures,
)

pub condition_value-v-requires : goal.condition_value-v-requires
condition_value-v-requires c = (c.requires.0, c.requires.1.0)

pub condition_node-requires : goal.condition_node-requires
condition_node-requires c = (c.requires.0, c.requires.1.0)
