-- Plan B written down in pieces is the plan B of the other examples. Assumes nothing.
use mathlib.Core.Path.{◌≡◌, refl}
use Rattle.plan_examples.specs.Plans.{plan_b}
use Rattle.run_calls.specs.Shown.{flag_byte}
use Rattle.run_trials.specs.Written.{two, twos, eight, names, nodes, condition_nodes, condition_values}
use Rattle.run_trials.specs.Written.{earlier_nodes, later_nodes, bytes_of}
use Rattle.run_trials.specs.Terms.{none_set}
use Rattle.run_trials.specs.Starred.{B, in_order}

pub bytes_of_B : bytes_of (B none_set in_order) ≡ plan_b
unfolding plan_b flag_byte two twos eight names nodes condition_nodes condition_values earlier_nodes later_nodes
    bytes_of
bytes_of_B = refl
