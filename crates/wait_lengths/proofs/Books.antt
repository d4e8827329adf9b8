-- Lengths and longest waits of small plans, computed. Assumes nothing.
use mathlib.Core.Path.{◌≡◌, refl}
use mathlib.Core.List.{List, [], ◌∷◌}
use Prim.Native.Nat.{ℕ}
use lib.ListN.{set}
use Rattle.plan_format.specs.Format.{u16_at, node_count, cond_count, order_count, entry_at, parent_of, kind_of}
use Rattle.plan_format.specs.Format.{minutes_of}
use Rattle.plan_format.specs.Format.{earlier_of, later_of, is_kind}
use Rattle.plan_rules.specs.Rules.{is_child}
use Rattle.plan_check.specs.Meaning.{kind_at}
use Rattle.plan_examples.specs.Plans.{plan_b}
use Rattle.wait_lengths.specs.Waits.{greatest, wait_by, length_as, length_by, length_of, wait_within, waits_to}
use Rattle.wait_lengths.specs.Waits.{longest_wait}

-- 01's book B: the root's length, then the longest waits of CAST, RADI and SATL
pub waits_b : List ℕ
waits_b = length_of plan_b 0 ∷ longest_wait plan_b 1 ∷ longest_wait plan_b 3 ∷ longest_wait plan_b 4 ∷ []

pub waits_of_B : waits_b ≡ 17 ∷ 0 ∷ 12 ∷ 12 ∷ []
unfolding plan_b waits_b u16_at node_count cond_count order_count entry_at parent_of kind_of minutes_of earlier_of
    later_of is_kind is_child kind_at greatest wait_by length_as length_by length_of wait_within waits_to longest_wait
waits_of_B = refl

-- the same where its choice is an optional group, of kind 3 (02)
unfoldable optional_b : List ℕ
optional_b = set plan_b 45 3

pub waits_optional : List ℕ
waits_optional =
    length_of optional_b 0 ∷ longest_wait optional_b 1 ∷ longest_wait optional_b 3 ∷ longest_wait optional_b 4 ∷ []

pub waits_of_optional : waits_optional ≡ 17 ∷ 0 ∷ 12 ∷ 12 ∷ []
unfolding plan_b optional_b waits_optional u16_at node_count cond_count order_count entry_at parent_of kind_of
    minutes_of earlier_of later_of is_kind is_child kind_at greatest wait_by length_as length_by length_of wait_within
    waits_to longest_wait
waits_of_optional = refl

-- tasks 1 to 4 of 5, 3, 2 and 9 minutes under an all-of root, 1 before 2 before 3
unfoldable chain : List ℕ
chain = 5 ∷ 0 ∷ 0 ∷ 0 ∷ 2 ∷ 0 ∷ 1 ∷ 0 ∷ 0 ∷ 0 ∷ 0 ∷ 0 ∷ 0 ∷ 0 ∷ 0 ∷ 0 ∷ 82 ∷ 79 ∷ 79 ∷ 84 ∷ 84 ∷ 49 ∷ 45 ∷ 45 ∷ 84 ∷ 50
    ∷ 45 ∷ 45 ∷ 84 ∷ 51 ∷ 45 ∷ 45 ∷ 84 ∷ 52 ∷ 45 ∷ 45 ∷ 255 ∷ 1 ∷ 0 ∷ 0 ∷ 0 ∷ 0 ∷ 5 ∷ 0 ∷ 0 ∷ 0 ∷ 3 ∷ 0 ∷ 0 ∷ 0 ∷ 2 ∷ 0
    ∷ 0 ∷ 0 ∷ 9 ∷ 0 ∷ 1 ∷ 2 ∷ 2 ∷ 3 ∷ []

-- the root's length, which is not the greatest wait plus the greatest length, then the longest waits
pub waits_chain : List ℕ
waits_chain =
    length_of chain 0 ∷ longest_wait chain 1 ∷ longest_wait chain 2 ∷ longest_wait chain 3 ∷ longest_wait chain 4 ∷ []

pub waits_of_chain : waits_chain ≡ 10 ∷ 0 ∷ 5 ∷ 8 ∷ 0 ∷ []
unfolding chain waits_chain u16_at node_count cond_count order_count entry_at parent_of kind_of minutes_of earlier_of
    later_of is_kind is_child kind_at greatest wait_by length_as length_by length_of wait_within waits_to longest_wait
waits_of_chain = refl
