-- `byte_of` meets its contract. Assumes nothing.
use mathlib.Core.Path.{◌∙◌}
use native.Mathlib.Omega.{arith}
use Rattle.plan_generate.specs.Model.{generated}
use Rattle.plan_generate.proofs.Bytes.{limited, size_is, order_is_lem, order_small}
use Rattle.plan_generate.proofs.Bytes.{minutes_small, value_high}
use Rattle.plan_generate.proofs.byte_of.Goals as goal

pub size_byte-requires : goal.size_byte-requires
size_byte-requires c = limited c.requires.0

pub overflow_add-result-in-Earlier : goal.overflow_add-result-in-Earlier
overflow_add-result-in-Earlier c =
    omega (arith, (order_small c.requires.0 _ (rw c.in-Earlier.is at c.requires.1)).1)

pub bounds-ordered-j-in-Later : goal.bounds-ordered-j-in-Later
bounds-ordered-j-in-Later c =
    (order_small c.requires.0 _ (rw c.in-Later.is at c.requires.1)).0

pub overflow_add-result-in-Later : goal.overflow_add-result-in-Later
overflow_add-result-in-Later c =
    omega (arith, (order_small c.requires.0 _ (rw c.in-Later.is at c.requires.1)).1)

pub returns-in-Size : goal.returns-in-Size
unfolding generated
returns-in-Size c = rw c.in-Size.is
    (c.size_byte.ensures ∙ size_is c.requires.0 _)

pub returns-in-ValueHigh : goal.returns-in-ValueHigh
unfolding generated
returns-in-ValueHigh c = rw c.in-ValueHigh.is (value_high _ _)

pub returns-in-Earlier : goal.returns-in-Earlier
unfolding generated
returns-in-Earlier c =
    rw c.in-Earlier.is (omega (arith, order_is_lem c.requires.0 _ (rw c.in-Earlier.is at c.requires.1)))

pub returns-in-Later : goal.returns-in-Later
unfolding generated
returns-in-Later c =
    rw c.in-Later.is (omega (arith, order_is_lem c.requires.0 _ (rw c.in-Later.is at c.requires.1)))

pub bounds-ordered-j : goal.bounds-ordered-j
bounds-ordered-j c =
    (order_small c.requires.0 _ (rw c.in-Earlier.is at c.requires.1)).0

pub returns-in-MinutesLow : goal.returns-in-MinutesLow
unfolding generated
returns-in-MinutesLow c =
    rw c.in-MinutesLow.is (omega (arith, c.minutes_of.ensures, minutes_small c.args.recipe c.in-MinutesLow.n))

pub returns-in-MinutesHigh : goal.returns-in-MinutesHigh
unfolding generated
returns-in-MinutesHigh c =
    rw c.in-MinutesHigh.is (omega (arith, minutes_small c.args.recipe c.in-MinutesHigh.field-0))
