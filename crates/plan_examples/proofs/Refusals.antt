-- Refusals of small plans (01: trial books), computed. Most rows change single bytes of book B; in some its choice is
-- an optional group, of kind 3 (02). Assumes nothing.
use mathlib.Core.Path.{◌≡◌, refl}
use mathlib.Core.Bool.{Bool, true, ◌&&◌}
use mathlib.Core.List.{List, [], ◌∷◌, ◌++◌}
use Prim.Native.Nat.{ℕ}
use lib.ListN.{replicate, set}
use lib.Dec.{eqb}
use Rattle.plan_codes.specs.Names.{name_allowed}
use Rattle.plan_codes.specs.Values.{flag_of, sign_of, place_of, value_bad}
use Rattle.plan_format.specs.Format.{u16_at, node_count, cond_count, order_count, flag_count, whole_length, start_flag}
use Rattle.plan_format.specs.Format.{name_char, entry_at, parent_of, kind_of, minutes_of, cond_node, cond_value}
use Rattle.plan_format.specs.Format.{earlier_of}
use Rattle.plan_format.specs.Format.{later_of, is_kind, is_group}
use Rattle.runs.specs.Searches.{any_below, either}
use Rattle.plan_rules.specs.Rules.{cause1, cause2, cause3, bad_start, cause4, bad_char, cause5, bad_entry, cause6}
use Rattle.plan_rules.specs.Rules.{bad_parent, cause7, childless, cause8, bad_condition, cause9, not_below, not_rising}
use Rattle.plan_rules.specs.Rules.{cause10, both_signs, cause11, post_of, no_post, cause12, is_child, bad_pair}
use Rattle.plan_rules.specs.Rules.{bad_order}
use Rattle.plan_rules.specs.Rules.{cause13, cause14, refusal}
use Rattle.plan_examples.specs.Plans.{plan_b, sized, tasks, flat, falling_names, equal_names, last_characters}
use Rattle.plan_examples.specs.Plans.{first_characters}

-- a plan of a single task, with the two bytes of its minutes
bare : ℕ → ℕ → List ℕ
bare low high = 1 ∷ 0 ∷ 0 ∷ 0 ∷ 0 ∷ 0 ∷ 1 ∷ 0 ∷ 0 ∷ 0 ∷ 0 ∷ 0 ∷ 0 ∷ 0 ∷ 0 ∷ 0 ∷ 66 ∷ 65 ∷ 82 ∷ 69 ∷ 255 ∷ 0 ∷ low ∷ high
    ∷ []

-- an all-of root with 127 tasks
wide : List ℕ
wide = flat 127 (replicate 508 45)

pub record Row : Type 0 where
  pub bytes : List ℕ
  pub expected : ℕ

pub row : List ℕ → ℕ → Row
row b n = record { bytes = b; expected = n }

pub rows : List Row
rows =
    row plan_b 0
    ∷ row (replicate 15 0) 1
    ∷ row (sized 0) 2
    ∷ row (sized 129) 2
    ∷ row wide 0
    ∷ row falling_names 0
    ∷ row equal_names 0
    ∷ row last_characters 0
    ∷ row first_characters 0
    ∷ row (bare 0 0) 0
    ∷ row (bare 0 0 ++ (0 ∷ [])) 3
    ∷ row (bare 96 39) 0
    ∷ row (bare 97 39) 6
    ∷ row (set plan_b 8 4) 4
    ∷ row (set plan_b 16 97) 5
    ∷ row (set plan_b 45 3) 0
    ∷ row (set plan_b 45 4) 6
    ∷ row (set plan_b 46 1) 6
    ∷ row (set plan_b 36 0) 7
    ∷ row (set plan_b 48 1) 7
    ∷ row (set (set plan_b 48 0) 52 0) 8
    ∷ row (set (set (set plan_b 45 3) 48 0) 52 0) 8
    ∷ row (set plan_b 56 0) 9
    ∷ row (set plan_b 69 2) 9
    ∷ row (set plan_b 64 192) 10
    ∷ row (set plan_b 66 64) 11
    ∷ row (set plan_b 68 1) 12
    ∷ row (set plan_b 80 0) 13
    ∷ row (set plan_b 81 3) 13
    ∷ row (set plan_b 81 5) 13
    ∷ row (set (set (set plan_b 45 3) 80 3) 81 4) 13
    ∷ row (set (set plan_b 4 2) 81 1 ++ (2 ∷ 2 ∷ [])) 14
    ∷ []

pub right : List Row → Bool
right [] = true
right (r ∷ rs) = eqb (refusal r.bytes) r.expected && right rs

pub examples : right rows ≡ true
unfolding plan_b bare sized tasks flat wide falling_names equal_names last_characters first_characters row rows right
    name_allowed flag_of sign_of place_of value_bad u16_at node_count cond_count order_count flag_count whole_length
    start_flag name_char entry_at parent_of kind_of minutes_of cond_node cond_value earlier_of later_of is_kind is_group
    any_below either cause1 cause2 cause3 bad_start cause4 bad_char cause5 bad_entry cause6 bad_parent cause7 childless
    cause8 bad_condition cause9 not_below not_rising cause10 both_signs cause11 post_of no_post cause12 is_child
    bad_pair bad_order cause13 cause14 refusal
examples = refl
