-- Trial plans for 02's judged books (112): what `merge` answers for two plans, and what `assess` answers for them and
-- for the merged plan. Definitions one-task.
use Rattle.std.specs.Prelude.{ℕ, ◌≡◌, ◌⊎◌, Bool, List, [], ◌∷◌, length, take, replicate}
use Rattle.std.proofs.Common.{inl, inr}
use Rattle.runs.specs.Verdict.{Verdict, CLEAR, DOOMED, OPEN}
use Rattle.verdict.specs.Verdict.{Answer, said, Assessed}
use Rattle.plan_merge.specs.Calls.{Merges}
use Rattle.run_trials.specs.Written.{then, PlanPieces, bytes_of}
use Rattle.run_trials.specs.Terms.{name, off, on, needs, holds, leaves, work, none_set, one_set, under_root}
use Rattle.run_trials.specs.Terms.{a_task, z_task, E, L, N, O}
use Rattle.run_trials.specs.Starred.{B, in_order}
use Rattle.run_trials.specs.Sequences.{rooted, bare}
use Rattle.runs.specs.Plan.{optional}

-- two plans, how many bytes are lent, and the answer
pub record MergeRow : Type 0 where
  pub first : PlanPieces
  pub second : PlanPieces
  pub room : ℕ
  pub answer : ℕ ⊎ ℕ

abbrev pub RowMerged : MergeRow → Type 0
RowMerged w = (out out' : List ℕ) (a : ℕ ⊎ ℕ) → length out ≡ w.room
    → Merges (bytes_of w.first) (bytes_of w.second) out a out' → a ≡ w.answer

abbrev pub AllMerged : List MergeRow → Type 0
AllMerged [] = Unit {0}
AllMerged (w ∷ l) = RowMerged w × AllMerged l

-- two plans, and the verdicts for them and for the plan merged from them
pub record JudgedRow : Type 0 where
  pub first : PlanPieces
  pub second : PlanPieces
  pub first_is : Verdict
  pub second_is : Verdict
  pub merged_is : Verdict

-- 300 bytes are lent
abbrev pub lent : List ℕ
lent = replicate 300 0

-- `merge` accepts the two plans, and the verdicts are these
abbrev pub RowJudged : JudgedRow → Type 0
RowJudged w = (out' : List ℕ) (a : ℕ ⊎ ℕ) → Merges (bytes_of w.first) (bytes_of w.second) lent a out'
    → (n : ℕ) × (a ≡ inr n) × ((x y z : Answer) → Assessed (bytes_of w.first) [] x
    → Assessed (bytes_of w.second) [] y → Assessed (take n out') [] z
    → (said x ≡ inr w.first_is) × (said y ≡ inr w.second_is) × (said z ≡ inr w.merged_is))

abbrev pub AllJudged : List JudgedRow → Type 0
AllJudged [] = Unit {0}
AllJudged (w ∷ l) = RowJudged w × AllJudged l

-- ---- the plans
-- one task and no group, these flags, set at the start where F is
abbrev lone_task : ℕ → (ℕ → Bool) → List ℕ → PlanPieces
lone_task v F l = record { flags = v; start = F; entries = work 255 (name L O N E) 7 l ∷ []; orders = [] }

-- one task with these conditions, one flag
abbrev pub one_task : List ℕ → PlanPieces
one_task l = lone_task 1 none_set l

-- A leaves flag 0 set, then Z needs it set
abbrev fed : PlanPieces
fed = under_root (a_task (leaves 0 on ∷ []) ∷ z_task (needs 0 on ∷ []) ∷ []) (then 1 2 ∷ [])

-- rule 5; rule 9
abbrev ill_named : PlanPieces
ill_named = record { flags = 1; start = none_set; entries = work 255 (0 ∷ 0 ∷ 0 ∷ 0 ∷ []) 7 [] ∷ []; orders = [] }

abbrev ill_flagged : PlanPieces
ill_flagged = one_task (needs 1 off ∷ [])

-- ---- the rows
abbrev row : PlanPieces → PlanPieces → ℕ → ℕ ⊎ ℕ → MergeRow
row b c n a = record { first = b; second = c; room = n; answer = a }

abbrev pub of_merges : List MergeRow
of_merges =
    -- 40 bytes: exact, and one short
    row (one_task []) (one_task []) 40 (inr 40)
    ∷ row (one_task []) (one_task []) 39 (inl 15)
    -- a flag of both starts differently; one that one-task one has does not count
    ∷ row (lone_task 2 (one_set 1) []) (lone_task 2 none_set []) 40 (inl 34)
    ∷ row (lone_task 1 none_set []) (lone_task 64 (one_set 63) []) 40 (inr 40)
    ∷ row (lone_task 64 (one_set 63) []) (lone_task 1 none_set []) 40 (inr 40)
    -- 34 before 15; 1 to 14 of the first, then of the second, before 34 and 15
    ∷ row (lone_task 1 (one_set 0) []) (lone_task 1 none_set []) 0 (inl 34)
    ∷ row ill_named ill_flagged 40 (inl 5)
    ∷ row ill_flagged ill_named 40 (inl 9)
    ∷ row (lone_task 1 (one_set 0) []) ill_flagged 0 (inl 9)
    -- and before 33: 127 nodes and one
    ∷ row (under_root (replicate 126 bare) []) ill_flagged 0 (inl 9)
    ∷ row ill_flagged (under_root (replicate 126 bare) []) 0 (inl 9)
    -- B with itself
    ∷ row (B none_set in_order) (B none_set in_order) 300 (inr 156)
    ∷ []

abbrev judged : PlanPieces → PlanPieces → Verdict → Verdict → Verdict → JudgedRow
judged b c u v w = record { first = b; second = c; first_is = u; second_is = v; merged_is = w }

abbrev pub of_merged_verdicts : List JudgedRow
of_merged_verdicts =
    -- nothing in common; a flag left alike by both; needed alike
    judged (one_task (leaves 0 on ∷ [])) (lone_task 2 none_set (leaves 1 off ∷ [])) CLEAR CLEAR CLEAR
    ∷ judged (one_task (leaves 0 on ∷ [])) (one_task (leaves 0 on ∷ [])) CLEAR CLEAR CLEAR
    ∷ judged (one_task (needs 0 off ∷ [])) (one_task (needs 0 off ∷ [])) CLEAR CLEAR CLEAR
    -- left opposite ways (104); needed in one, left opposite in the other, either way round
    ∷ judged (one_task (leaves 0 on ∷ [])) (one_task (leaves 0 off ∷ [])) CLEAR CLEAR OPEN
    ∷ judged (one_task (needs 0 off ∷ [])) (one_task (leaves 0 on ∷ [])) CLEAR CLEAR OPEN
    ∷ judged (one_task (leaves 0 on ∷ [])) (one_task (needs 0 off ∷ [])) CLEAR CLEAR OPEN
    -- a need that is not exposed: what it needs is also left there, so that it is left opposite too
    ∷ judged fed (one_task (leaves 0 off ∷ [])) CLEAR CLEAR OPEN
    -- a hold against a leaving; a need against a hold; a hold against a hold, where by rule 12 a leaving collides too
    ∷ judged (one_task (holds 0 on ∷ leaves 0 off ∷ [])) (one_task (leaves 0 off ∷ [])) CLEAR CLEAR OPEN
    ∷ judged (one_task (needs 0 off ∷ [])) (one_task (holds 0 on ∷ leaves 0 off ∷ [])) CLEAR CLEAR OPEN
    ∷ judged (one_task (holds 0 on ∷ leaves 0 on ∷ [])) (one_task (holds 0 off ∷ leaves 0 on ∷ [])) CLEAR CLEAR OPEN
    -- an optional root
    ∷ judged (rooted optional (z_task (leaves 0 on ∷ []) ∷ [])) (one_task (leaves 0 off ∷ [])) CLEAR CLEAR OPEN
    ∷ judged (rooted optional (z_task (leaves 0 on ∷ []) ∷ [])) (one_task (leaves 0 on ∷ [])) CLEAR CLEAR CLEAR
    -- one that is not CLEAR; B with itself
    ∷ judged (one_task (needs 0 on ∷ [])) (one_task []) DOOMED CLEAR DOOMED
    ∷ judged (B none_set in_order) (B none_set in_order) CLEAR CLEAR OPEN
    ∷ []

-- ---- merged plans, byte by byte: B, and one task with 9 flags of which flag 8 is set; that task, and one with one
-- flag
abbrev pub nine_flags : PlanPieces
nine_flags = lone_task 9 (one_set 8) []

abbrev pub merged_plan : List ℕ
merged_plan =
    -- 7 nodes, 8 conditions, 1 order, 9 flags; flag 8 is set
    7 ∷ 0 ∷ 8 ∷ 0 ∷ 1 ∷ 0 ∷ 9 ∷ 0 ∷ 0 ∷ 1 ∷ 0 ∷ 0 ∷ 0 ∷ 0 ∷ 0 ∷ 0
    -- HULL, MOOR, CAST, COMS, RADI, SATL, LONE
    ∷ 72 ∷ 85 ∷ 76 ∷ 76 ∷ 77 ∷ 79 ∷ 79 ∷ 82 ∷ 67 ∷ 65 ∷ 83 ∷ 84 ∷ 67 ∷ 79 ∷ 77 ∷ 83
    ∷ 82 ∷ 65 ∷ 68 ∷ 73 ∷ 83 ∷ 65 ∷ 84 ∷ 76 ∷ 76 ∷ 79 ∷ 78 ∷ 69
    -- parents, kinds and minutes
    ∷ 255 ∷ 1 ∷ 0 ∷ 0 ∷ 0 ∷ 1 ∷ 0 ∷ 0 ∷ 1 ∷ 0 ∷ 12 ∷ 0 ∷ 1 ∷ 2 ∷ 0 ∷ 0
    ∷ 3 ∷ 0 ∷ 3 ∷ 0 ∷ 3 ∷ 0 ∷ 5 ∷ 0 ∷ 0 ∷ 0 ∷ 7 ∷ 0
    -- the conditions' tasks
    ∷ 2 ∷ 2 ∷ 2 ∷ 4 ∷ 4 ∷ 4 ∷ 5 ∷ 5
    -- and values
    ∷ 0 ∷ 0 ∷ 192 ∷ 0 ∷ 0 ∷ 1 ∷ 0 ∷ 0 ∷ 193 ∷ 0 ∷ 1 ∷ 1 ∷ 193 ∷ 0 ∷ 1 ∷ 1
    -- the order
    ∷ 2 ∷ 3
    ∷ []

abbrev pub two_tasks : List ℕ
two_tasks =
    -- 3 nodes, no condition, no order, 9 flags; flag 8 is set
    3 ∷ 0 ∷ 0 ∷ 0 ∷ 0 ∷ 0 ∷ 9 ∷ 0 ∷ 0 ∷ 1 ∷ 0 ∷ 0 ∷ 0 ∷ 0 ∷ 0 ∷ 0
    -- HULL, LONE, LONE
    ∷ 72 ∷ 85 ∷ 76 ∷ 76 ∷ 76 ∷ 79 ∷ 78 ∷ 69 ∷ 76 ∷ 79 ∷ 78 ∷ 69
    -- parents, kinds and minutes
    ∷ 255 ∷ 1 ∷ 0 ∷ 0 ∷ 0 ∷ 0 ∷ 7 ∷ 0 ∷ 0 ∷ 0 ∷ 7 ∷ 0
    ∷ []
