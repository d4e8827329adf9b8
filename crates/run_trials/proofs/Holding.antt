-- The trial plans and calls of 01 that are marked * hold, from their bytes, by computation; and rows for 02. Assumes
-- nothing.
use mathlib.Core.Path.{◌≡◌}
use mathlib.Core.Logic.{◌⊎◌, inr}
use mathlib.Core.List.{List, [], ◌∷◌, ◌++◌}
use Prim.Native.Nat.{ℕ}
use lib.ListN.{replicate}
use Rattle.plan_codes.specs.Names.{name_allowed}
use Rattle.plan_codes.specs.Values.{flag_of, sign_of, place_of, value_bad}
use Rattle.plan_format.specs.Format.{u16_at, node_count, cond_count, order_count, flag_count, whole_length, start_flag}
use Rattle.plan_format.specs.Format.{name_char, entry_at, parent_of, kind_of, minutes_of, cond_node, cond_value}
use Rattle.plan_format.specs.Format.{earlier_of}
use Rattle.plan_format.specs.Format.{later_of, is_kind, is_group}
use Rattle.plan_rules.specs.Rules.{cause1, cause2, cause3, bad_start, cause4, bad_char, cause5, bad_entry, cause6}
use Rattle.plan_rules.specs.Rules.{bad_parent, cause7, childless, cause8, bad_condition, cause9, not_below, not_rising}
use Rattle.plan_rules.specs.Rules.{cause10, both_signs, cause11, post_of, no_post, cause12, is_child, bad_pair}
use Rattle.plan_rules.specs.Rules.{bad_order}
use Rattle.plan_rules.specs.Rules.{cause13, cause14, refusal}
use Rattle.plan_check.specs.Meaning.{plan_of, start_of, kind_at, condition_is, has_condition, sign_in, order_is}
use Rattle.plan_check.specs.Meaning.{has_order}
use Rattle.runs.specs.Model.Computing.{computing}
use Rattle.sequences.proofs.Tried.{seeking}
use Rattle.base.specs.Bits.{bit}
use Rattle.base.specs.Count.{count_below}
use Rattle.run_flags.specs.Flags.{flag_in}
use Rattle.run_starts.specs.Starts.{node_byte, ordinal_at, ordinal_in, started_in, started_count, holders}
use Rattle.run_starts.specs.Starts.{stray_ordinal}
use Rattle.run_starts.specs.Starts.{misnumbered}
use Rattle.run_state.specs.State.{too_short, bad_flag, bad_byte, bad_node, status_at, moves, status_in, bad_absent}
use Rattle.run_state.specs.State.{malformed_under, room_refusal_under, state_refusal_under}
use Rattle.plan_blocked.specs.Blocked.{refusal_under}
use Rattle.runs.specs.Model.Blocked.{stands, standing_order, marked_under_b, unblockable_b, refused28_b, refused29_b}
use Rattle.runs.specs.Model.Blocked.{blocked_refusal}
use Rattle.run_calls.specs.Shown.{flag_byte, number_byte, shown_byte}
use Rattle.run_trials.specs.Written.{two, twos, eight, names, nodes, condition_nodes, condition_values}
use Rattle.run_trials.specs.Written.{earlier_nodes, later_nodes, bytes_of}
use Rattle.run_trials.specs.Trial.{status_bytes, state_bytes, AllHold}
use Rattle.run_trials.specs.Starred.{starred, B, in_order}
use Rattle.run_trials.specs.Requested.{of_starts, of_places, of_skips, of_groups, of_words, of_finishes}
use Rattle.run_trials.specs.Blocked.{of_branches, of_lists, of_absent, of_roots}
use Rattle.run_trials.specs.Sequences.{of_sequences, AllSequenced}
use Rattle.run_trials.specs.Members.{of_member_calls, AllCalled}
use Rattle.run_trials.specs.Checked.{AllChecked, AllWorded, AllRefused}
use Rattle.run_trials.proofs.Tests.{shows_b, left_b, holds_b, all_hold_b, all_hold}
use Rattle.run_trials.proofs.Checks.{all_checked_b, all_checked, complete_is, all_worded_b, all_worded, all_refused_b}
use Rattle.run_trials.proofs.Checks.{all_refused}
use Rattle.sequence.specs.Sequence.{sequence_answer}
use Rattle.run_trials.proofs.Sequences.{same_answer, sequence_b, all_sequenced_b, all_sequenced}
use Rattle.members.proofs.Tried.{coming}
use Rattle.member_list.specs.Members.{member_in}
use Rattle.member_list.specs.Model.{bad_member, members_refusal}
use Rattle.member_calls.specs.Model.{member_call_refusal, member_return, members_left}
use Rattle.base.specs.Answers.{overlay}
use Rattle.plan_layout.specs.Layout.{size_number, size_byte, entry_part, value_part, part_at}
use Rattle.plan_layout.specs.Fields.{byte_at}
use Rattle.plan_parts.specs.Joined.{in_turn, parent_under}
use Rattle.plan_merge.specs.Model.{refused33, refused34, pair_refusal, merge_refusal, merge_answer, merge_left}
use Rattle.verdict.specs.Verdict.{answer_of}
use Rattle.run_trials.specs.Merged.{of_merges, AllMerged, of_merged_verdicts, AllJudged, nine_flags, merged_plan}
use Rattle.run_trials.specs.Merged.{one_task, two_tasks}
use Rattle.plan_merge.specs.Calls.{Merges}
use Rattle.run_trials.specs.Terms.{none_set}
use Rattle.run_trials.proofs.Merged.{answer_in, merge_b, all_merged_b, all_merged, merged_bytes, judged_b, judged_row_b}
use Rattle.run_trials.proofs.Merged.{all_judged_b, all_judged}
use Rattle.run_trials.proofs.Members.{answers_of, list_after, same_verdict, same_answers, member_b, all_called_b}
use Rattle.run_trials.proofs.Members.{all_called}

-- the plans, their bytes and their meaning, and the bytes of states, under one name
unfoldable pub bytes : Unit {0}
unfolding computing name_allowed flag_of sign_of place_of value_bad u16_at node_count cond_count order_count
    flag_count whole_length start_flag name_char entry_at parent_of kind_of minutes_of cond_node cond_value earlier_of
    later_of is_kind is_group cause1 cause2 cause3 bad_start cause4 bad_char cause5 bad_entry cause6 bad_parent cause7
    childless cause8 bad_condition cause9 not_below not_rising cause10 both_signs cause11 post_of no_post cause12
    is_child bad_pair bad_order cause13 cause14 refusal refusal_under blocked_refusal refused28_b refused29_b
    unblockable_b stands standing_order plan_of kind_at condition_is has_condition sign_in order_is has_order
    flag_byte two twos eight names nodes condition_nodes condition_values earlier_nodes later_nodes bytes_of
    status_bytes state_bytes
bytes = tt

-- a row as one test
unfoldable pub rows : Unit {0}
unfolding bytes start_of marked_under_b number_byte shown_byte shows_b left_b holds_b all_hold_b
rows = tt

-- every starred row of 01 holds
pub starred_hold : AllHold starred
unfolding rows
starred_hold = all_hold starred tt

-- and every row for 02's order of starts
pub starts_hold : AllHold of_starts
unfolding rows
starts_hold = all_hold of_starts tt

-- 16 and 15 of a state
unfoldable pub checks : Unit {0}
unfolding bytes node_byte ordinal_at ordinal_in too_short bad_flag bad_byte started_in started_count holders
    stray_ordinal misnumbered bad_node bad_absent malformed_under room_refusal_under state_refusal_under flag_in bit
    count_below all_checked_b
checks = tt

pub places_checked : AllChecked of_places
unfolding checks
places_checked = all_checked of_places tt

-- every row for 02's optional groups
pub skips_hold : AllHold of_skips
unfolding rows
skips_hold = all_hold of_skips tt

pub groups_checked : AllChecked of_groups
unfolding checks
groups_checked = all_checked of_groups tt

pub words_told : AllWorded of_words
unfolding rows checks moves status_at status_in complete_is all_worded_b
words_told = all_worded of_words tt

-- every row for 02's finishes in one step
pub finishes_hold : AllHold of_finishes
unfolding rows
finishes_hold = all_hold of_finishes tt

-- every row for 02's blocked branches
pub branches_hold : AllHold of_branches
unfolding rows
branches_hold = all_hold of_branches tt

pub lists_refused : AllRefused of_lists
unfolding bytes all_refused_b
lists_refused = all_refused of_lists tt

pub absent_checked : AllChecked of_absent
unfolding checks
absent_checked = all_checked of_absent tt

pub roots_told : AllWorded of_roots
unfolding rows checks moves status_at status_in complete_is all_worded_b
roots_told = all_worded of_roots tt

-- every row for 02's sequence of the root's children
pub sequences_told : AllSequenced of_sequences
unfolding bytes start_of seeking sequence_answer same_answer sequence_b all_sequenced_b
sequences_told = all_sequenced of_sequences tt

-- every row for 02's members
pub members_called : AllCalled of_member_calls
unfolding bytes start_of coming member_in bad_member members_refusal member_call_refusal member_return members_left
    answers_of list_after same_verdict same_answer same_answers member_b all_called_b
members_called = all_called of_member_calls tt

-- every row for 02's pooled books
unfoldable pub joining : Unit {0}
unfolding bytes start_of in_turn parent_under size_number size_byte entry_part value_part part_at byte_at overlay
    refused33 refused34 pair_refusal merge_refusal merge_left answer_of same_verdict same_answer
joining = tt

pub merges_told : AllMerged of_merges
unfolding joining answer_in merge_b all_merged_b
merges_told = all_merged of_merges tt

pub merged_judged : AllJudged of_merged_verdicts
unfolding joining merged_bytes judged_b judged_row_b all_judged_b
merged_judged = all_judged of_merged_verdicts tt

-- merged plans, and two bytes after each that stay
pub merged_left : (out' : List ℕ) (a : ℕ ⊎ ℕ)
    → Merges (bytes_of (B none_set in_order)) (bytes_of nine_flags) (replicate 100 7) a out'
    → (a ≡ inr 98) × (out' ≡ merged_plan ++ 7 ∷ 7 ∷ [])
unfolding joining merge_answer
merged_left out' a m = (m.returns, m.leaves)

pub tasks_left : (out' : List ℕ) (a : ℕ ⊎ ℕ)
    → Merges (bytes_of nine_flags) (bytes_of (one_task [])) (replicate 42 7) a out'
    → (a ≡ inr 40) × (out' ≡ two_tasks ++ 7 ∷ 7 ∷ [])
unfolding joining merge_answer
tasks_left out' a m = (m.returns, m.leaves)
