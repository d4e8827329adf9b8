-- One name for all the tests and functions that compute: a proof by computation writes `unfolding computing`.
-- Definitions only.
use Rattle.std.proofs.Math.Bool.{decide}
use Rattle.runs.specs.Tests.{both, implies, negate, all_below, same_b, same_list, is_none, is_some}
use Rattle.runs.specs.Searches.{either, any_below, any_in, listed}
use Rattle.runs.specs.Model.Marks.{quiet_in, meet_in, last_in, quiet_b, meet_b, last_b, unasserted_b, pre_b, asserts_b}
use Rattle.runs.specs.Model.Marks.{begins_inc_b, neutral_b, covers_b}
use Rattle.runs.specs.Model.Marks.{avoid_b, may_pre_b, must_pre_b, may_post_b, must_post_b, may_inc_b, must_inc_b}
use Rattle.runs.specs.Model.Marks.{condition_b}
use Rattle.runs.specs.Model.Marks.{silent_b, avoided_b, pair_b}
use Rattle.runs.specs.Model.Marks.{may_clobber_in, may_clobber_b, alone_b, undisturbed_b, must_clobber_in}
use Rattle.runs.specs.Model.Marks.{must_clobber_b}
use Rattle.runs.specs.Model.Marks.{marked_b}
use Rattle.runs.specs.Model.Monitor.{status_b, opposite_b, task_b, optional_b, absent_b}
use Rattle.runs.specs.Model.Monitor.{complete_in, complete_b, begun_b, rival_b}
use Rattle.runs.specs.Model.Monitor.{wrong_status_b, branch_begun_b, order_open_b, inc_broken_b, pre_unmet_b, applies_b}
use Rattle.runs.specs.Model.Monitor.{rising_b, not_rising_b, post_opposed_b}
use Rattle.runs.specs.Model.Monitor.{first_of, refusal_of, returned, step, returns, states}
use Rattle.runs.specs.Model.Trees.{kind_b, picks_b, moves_b, by_kind, child_b, some_child_b, every_child_b, under_in}
use Rattle.runs.specs.Model.Trees.{under_b, some_under_b, some_task_b, before_in, before_b, unordered_b}
use Rattle.runs.specs.Model.Verdicts.{fails_b, some_literal_b, may_fail_b, must_fail_b, judge, verdict}

unfoldable pub computing : Unit {0}
unfolding decide both either implies negate any_below all_below any_in listed same_b same_list is_none is_some kind_b
    picks_b moves_b by_kind child_b some_child_b every_child_b under_in under_b some_under_b some_task_b before_in
    before_b unordered_b quiet_in meet_in last_in quiet_b meet_b last_b unasserted_b pre_b asserts_b begins_inc_b
    neutral_b covers_b avoid_b may_pre_b must_pre_b may_post_b must_post_b may_inc_b must_inc_b condition_b silent_b
    avoided_b pair_b may_clobber_in may_clobber_b alone_b undisturbed_b must_clobber_in must_clobber_b marked_b
    fails_b some_literal_b may_fail_b must_fail_b judge verdict status_b opposite_b rising_b not_rising_b task_b
    optional_b absent_b complete_in complete_b begun_b rival_b wrong_status_b branch_begun_b order_open_b inc_broken_b
    pre_unmet_b post_opposed_b applies_b first_of refusal_of returned step returns states
computing = tt
