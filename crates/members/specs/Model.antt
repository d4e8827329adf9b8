-- The plan of the members and what a call answers, as functions that compute. Definitions only.
use Rattle.std.specs.Prelude.{◌⊎◌, Bool, cond, List, [], ◌∷◌, ℕ, zero, suc}
use Rattle.base.specs.Answers.{refused_or}
use Rattle.runs.specs.Searches.{either}
use Rattle.runs.specs.Tests.{both, negate, same_b}
use Rattle.runs.specs.Plan.{all_of, Plan}
use Rattle.runs.specs.Verdict.{Verdict}
use Rattle.runs.specs.Model.Trees.{kind_b, child_b}
use Rattle.runs.specs.Model.Blocked.{without}
use Rattle.runs.specs.Model.Verdicts.{verdict}
use Rattle.members.specs.Members.{MemberCall, changed}

-- a child of the root that is no member
unfoldable pub outsider : Plan → (ℕ → Bool) → ℕ → Bool
outsider p A c = both (child_b p 0 c) (λ u. negate (A c))

abbrev pub members_of : Plan → (ℕ → Bool) → Plan
members_of p A = without p (outsider p A)

-- the members stay, or change
abbrev pub kept_or : ℕ → (ℕ → Bool) → (ℕ → Bool) → ℕ → Bool
kept_or zero A B = B
kept_or (suc r) A B = A

module _ (p : Plan) where
  unfoldable pub refused31_b : ℕ → Bool
  refused31_b n = either (negate (kind_b (p.tree.kind 0) all_of)) (λ u. negate (child_b p 0 n))

  -- 17, 31, 32, or 0
  unfoldable pub member_refusal : (ℕ → Bool) → MemberCall → ℕ
  member_refusal A c = cond (negate (p.tree.here c.node)) 17
      (cond (refused31_b c.node) 31 (cond (same_b (A c.node) c.joins) 32 0))

  -- what the call answers, and the members after it
  unfoldable pub member_answer : (ℕ → Bool) → (ℕ → Bool) → MemberCall → ℕ ⊎ Verdict
  member_answer F A c = refused_or (member_refusal A c) (verdict (members_of p (changed A c)) F)

  unfoldable pub members_after : (ℕ → Bool) → MemberCall → ℕ → Bool
  members_after A c = kept_or (member_refusal A c) A (changed A c)

  -- over lists of calls, the first call first
  unfoldable pub member_answers : (ℕ → Bool) → (ℕ → Bool) → List MemberCall → List (ℕ ⊎ Verdict)
  member_answers F A [] = []
  member_answers F A (c ∷ cs) = member_answer F A c ∷ member_answers F (members_after A c) cs

  unfoldable pub members_after_all : (ℕ → Bool) → List MemberCall → ℕ → Bool
  members_after_all A [] = A
  members_after_all A (c ∷ cs) = members_after_all (members_after A c) cs
