-- Inner contracts: a call by its arguments, and the verdict for the members that a list shows. Definitions only.
use Rattle.std.specs.Prelude.{◌≡◌, Bool, List, ℕ}
use Rattle.plan_check.specs.Meaning.{plan_of, start_of}
use Rattle.runs.specs.Model.Verdicts.{verdict}
use Rattle.members.specs.Members.{MemberCall}
use Rattle.members.specs.Model.{members_of}
use Rattle.member_list.specs.Members.{member_in}
use Rattle.verdict.specs.declared.Verdict.{Verdict}
use Rattle.verdict.specs.Verdict.{word_of}

abbrev pub member_call : ℕ → Bool → MemberCall
member_call n j = record { node = n; joins = j }

abbrev pub OfList : List ℕ → List ℕ → Verdict → Type 0
OfList b ms v = word_of v ≡ verdict (members_of (plan_of b) (member_in b ms)) (start_of b)
