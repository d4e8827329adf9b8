-- What a call that includes or excludes a member answers and leaves, computed. Definitions only.
use Rattle.std.specs.Prelude.{◌⊎◌, cond, List, ℕ, eqb, set}
use Rattle.base.specs.Answers.{first, refused_or}
use Rattle.base.specs.Count.{num}
use Rattle.plan_check.specs.Meaning.{plan_of, start_of}
use Rattle.runs.specs.Verdict.{Verdict}
use Rattle.runs.specs.Model.Verdicts.{verdict}
use Rattle.members.specs.Members.{MemberCall, changed}
use Rattle.members.specs.Model.{members_of, member_refusal}
use Rattle.member_list.specs.Members.{member_in}
use Rattle.member_list.specs.Model.{members_refusal}

-- 1 to 16, then 17, 31 and 32, or 0
unfoldable pub member_call_refusal : List ℕ → List ℕ → MemberCall → ℕ
member_call_refusal b ms c = first (members_refusal b ms) (member_refusal (plan_of b) (member_in b ms) c)

unfoldable pub member_return : List ℕ → List ℕ → MemberCall → ℕ ⊎ Verdict
member_return b ms c =
    refused_or (member_call_refusal b ms c) (verdict (members_of (plan_of b) (changed (member_in b ms) c)) (start_of b))

unfoldable pub members_left : List ℕ → List ℕ → MemberCall → List ℕ
members_left b ms c = cond (eqb (member_call_refusal b ms c) 0) (set ms c.node (num c.joins)) ms
