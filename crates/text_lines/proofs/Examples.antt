-- 01's book B: its task lines, and the order of the lines of tasks that wait equally long, computed. Assumes nothing.
use mathlib.Core.Path.{◌≡◌, refl}
use mathlib.Core.List.{[], ◌∷◌}
use Rattle.plan_format.specs.Format.{u16_at, node_count, cond_count, order_count, name_char, entry_at, parent_of}
use Rattle.plan_format.specs.Format.{kind_of}
use Rattle.plan_format.specs.Format.{minutes_of, earlier_of, later_of, is_kind, name_of}
use Rattle.plan_rules.specs.Rules.{is_child}
use Rattle.plan_check.specs.Meaning.{kind_at}
use Rattle.text_decimals.specs.Model.{decimal_by, decimal}
use Rattle.wait_lengths.specs.Waits.{greatest, wait_by, length_as, length_by, length_of, wait_within, waits_to}
use Rattle.wait_lengths.specs.Waits.{longest_wait}
use Rattle.plan_examples.specs.Plans.{plan_b, sized, tasks, flat, falling_names, equal_names, last_characters}
use Rattle.plan_examples.specs.Plans.{first_characters}
use Rattle.text_order.specs.Model.{key_with, key_of, inserted, ranked_to, ranking}
use Rattle.text_lines.specs.Model.{ending, line_of, lines_of}

-- RADI 12, SATL 12, CAST 0
pub lines_of_B : lines_of plan_b (longest_wait plan_b) (ranking plan_b)
    ≡ 82 ∷ 65 ∷ 68 ∷ 73 ∷ 32 ∷ 49 ∷ 50 ∷ 10 ∷ 83 ∷ 65 ∷ 84 ∷ 76 ∷ 32 ∷ 49 ∷ 50 ∷ 10 ∷ 67 ∷ 65 ∷ 83 ∷ 84 ∷ 32 ∷ 48 ∷ 10 ∷
    []
unfolding plan_b u16_at node_count cond_count order_count name_char entry_at parent_of kind_of minutes_of earlier_of
    later_of is_kind is_child kind_at decimal_by decimal greatest wait_by length_as length_by length_of wait_within
    waits_to longest_wait key_with key_of inserted ranked_to ranking name_of ending line_of lines_of
lines_of_B = refl

-- AAAA before ZZZZ; equal names by node; TMPA, TMPB, TMPC; "-" before digits before letters
pub ties_by_name : ranking falling_names ∷ ranking equal_names ∷ ranking last_characters ∷ ranking first_characters ∷ []
    ≡ (2 ∷ 1 ∷ []) ∷ (1 ∷ 2 ∷ 3 ∷ 4 ∷ []) ∷ (2 ∷ 3 ∷ 1 ∷ []) ∷ (3 ∷ 4 ∷ 2 ∷ 1 ∷ []) ∷ []
unfolding sized tasks flat falling_names equal_names last_characters first_characters u16_at node_count cond_count
    order_count name_char entry_at parent_of kind_of minutes_of earlier_of later_of is_kind is_child kind_at greatest
    wait_by length_as length_by length_of wait_within waits_to longest_wait key_with key_of inserted ranked_to ranking
    name_of
ties_by_name = refl
