-- Small plans, computed: members come and go.
use Rattle.runs.proofs.Base.{◌≡◌, refl, inl, inr, Bool, true, false, cond, Option, none, some, [], ◌∷◌, ℕ, ltb}
use Rattle.runs.proofs.Base.{eqb}
use Rattle.runs.specs.Searches.{either}
use Rattle.runs.specs.Tests.{both}
use Rattle.runs.specs.Plan.{Kind, task, all_of, any_of, Place, pre, inc, post, Plan}
use Rattle.runs.specs.Verdict.{CLEAR, OPEN}
use Rattle.runs.specs.Model.Blocked.{stands, standing_order}
use Rattle.runs.specs.Model.Computing.{computing}
use Rattle.members.specs.Members.{nobody, include, exclude, changed}
use Rattle.members.specs.Model.{outsider, refused31_b, member_refusal, member_answer, members_after, member_answers}

-- 01's trio under a root of the kind k, all flags clear: A (1) leaves flag 0 set, C (2) leaves it clear, Z (3) needs it
-- clear; A before C before Z
abbrev signs : Place → ℕ → ℕ → Option Bool
signs pre t f = cond (eqb t 3) (some false) none
signs inc t f = none
signs post t f = cond (eqb t 1) (some true) (cond (eqb t 2) (some false) none)

abbrev trio : Kind → Plan
trio k = record {
  tree = record { size = 4; here = λ i. ltb i 4; kind = λ i. cond (eqb i 0) k task; parent = λ i. 0 };
  conditions = record { flags = 1; sign = signs };
  order = λ a b. either (both (eqb a 1) (λ u. eqb b 2)) (λ u. both (eqb a 2) (λ u. eqb b 3));
}

-- the answers, under one name
unfoldable pub coming : Unit {0}
unfolding computing stands standing_order outsider changed refused31_b member_refusal member_answer members_after
    member_answers
coming = tt

-- without C, A and Z are unordered: OPEN, not DOOMED; C comes, and goes; then all go
trio_members : member_answers (trio all_of) (λ f. false) nobody
    (include 1 ∷ include 3 ∷ include 2 ∷ include 2 ∷ exclude 2 ∷ exclude 2 ∷ exclude 1 ∷ exclude 3 ∷ [])
    ≡ inr CLEAR ∷ inr OPEN ∷ inr CLEAR ∷ inl 32 ∷ inr OPEN ∷ inl 32 ∷ inr CLEAR ∷ inr CLEAR ∷ []
unfolding coming
trio_members = refl

-- no node: 17; the root, and a child of another kind of root: 31
refusals : (member_answers (trio all_of) (λ f. false) nobody (include 4 ∷ include 0 ∷ exclude 1 ∷ [])
    ≡ inl 17 ∷ inl 31 ∷ inl 32 ∷ [])
    × (member_answers (trio any_of) (λ f. false) nobody (include 4 ∷ include 1 ∷ []) ≡ inl 17 ∷ inl 31 ∷ [])
unfolding coming
refusals = (refl, refl)
