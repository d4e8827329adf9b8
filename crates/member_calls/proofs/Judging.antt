-- The verdict for the members of a list, from the words of the root. Assumes nothing.
use mathlib.Core.Path.{◌≡◌}
use mathlib.Core.List.{List}
use Prim.Native.Nat.{ℕ}
use Rattle.plan_rules.specs.Rules.{refusal}
use Rattle.plan_check.specs.Meaning.{plan_of, start_of}
use Rattle.plan_check.proofs.Meaning.{means_well_formed}
use Rattle.plan_blocked.specs.Inner.{Standing}
use Rattle.runs.specs.Plan.{all_of}
use Rattle.runs.specs.Model.Blocked.{without}
use Rattle.marks_words.specs.Words.{StartWord}
use Rattle.table_marks.specs.Marks.{AmongWords}
use Rattle.verdict.specs.declared.Verdict.{Verdict}
use Rattle.verdict.specs.Inner.{OfWords}
use Rattle.verdict.proofs.Judging.{left_flags}
use Rattle.members.specs.Model.{outsider}
use Rattle.members.proofs.Parts.{members_well_formed}
use Rattle.member_list.specs.Members.{member_in}
use Rattle.member_calls.specs.Inner.{OfList}

pub of_list : (b ms : List ℕ) {table words : List ℕ} {start : ℕ} (v : Verdict) → refusal b ≡ 0
    → (plan_of b).tree.kind 0 ≡ all_of → Standing b (outsider (plan_of b) (member_in b ms)) table
    → AmongWords b table 0 words → StartWord (start_of b) start → OfWords words start v → OfList b ms v
of_list b ms v ok k h m s o =
    let S = outsider (plan_of b) (member_in b ms) in
    let w = members_well_formed (plan_of b) (means_well_formed b ok) (member_in b ms) k in
    o (without (plan_of b) S) (start_of b) w (left_flags b ok S) (m S w h w.root_node) s
