-- What a call that includes or excludes a member answers, and every byte of the list that it leaves (02: "to bring one
-- aboard and take one off", 111). Definitions only.
use Rattle.std.specs.Prelude.{◌≡◌, ◌≢◌, ◌⊎◌, ◌↔◌, List, ℕ, ◌<◌, ◌≤◌, length, get_or}
use Rattle.std.proofs.Common.{inl, inr}
use Rattle.base.specs.Count.{num}
use Rattle.plan_format.specs.Format.{node_count}
use Rattle.plan_rules.specs.Rules.{refusal}
use Rattle.plan_check.specs.Meaning.{plan_of, start_of}
use Rattle.runs.specs.Verdict.{Verdict}
use Rattle.members.specs.Members.{MemberCall, MemberAnswered}
use Rattle.member_list.specs.Members.{member_in, BadMembers, MembersPass}
use Rattle.member_calls.specs.Model.{member_return, members_left}

-- the call c on the plan b and the list ms: a is its answer, ms' the list after it
pub record MemberCalled (b ms : List ℕ) (c : MemberCall) (a : ℕ ⊎ Verdict) (ms' : List ℕ) : Type 0 where
  pub returns : a ≡ member_return b ms c
  pub leaves : ms' ≡ members_left b ms c
  -- 1 to 14 come first; then 15, a list of under N bytes; then 16
  pub refused : refusal b ≢ 0 → a ≡ inl (refusal b)
  pub refused_15 : refusal b ≡ 0 → (a ≡ inl 15) ↔ (length ms < node_count b)
  pub refused_16 : refusal b ≡ 0 → (a ≡ inl 16) ↔ ((node_count b ≤ length ms) × BadMembers b ms)
  -- then 17, 31 and 32, or the verdict, with the members that the bytes show before and after the call
  pub answered : MembersPass b ms → MemberAnswered (plan_of b) (start_of b) (member_in b ms) c a (member_in b ms')
  -- "An accepted call writes that child's byte, nothing else", and a refused one nothing
  pub unchanged : (n : ℕ) → a ≡ inl n → ms' ≡ ms
  pub written : (v : Verdict) → a ≡ inr v → get_or ms' c.node 0 ≡ num c.joins
  pub others : (i : ℕ) → i ≢ c.node → get_or ms' i 0 ≡ get_or ms i 0
  pub as_long : length ms' ≡ length ms
