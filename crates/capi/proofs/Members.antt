-- The number of an answer about members tells the answer: no refusal is the number of a verdict. Assumes nothing.
use mathlib.Core.Path.{◌≡◌, refl, ap, ◌∙◌}
use mathlib.Core.Logic.{◌⊎◌, inl, inr}
use mathlib.Core.Bool.{Bool, cond}
use mathlib.Core.List.{List}
use Prim.Native.Nat.{ℕ, zero, suc, ◌<◌, ◌≤◌}
use native.Mathlib.Omega.{arith}
use lib.Dec.{ltb}
use lib.ListN.{length}
use borrow.Author.Tests.{ne_eqb}
use Rattle.base.specs.Answers.{refused_or}
use Rattle.base.proofs.First.{number_in, first_limit, cond_limit}
use Rattle.plan_format.specs.Format.{node_count}
use Rattle.plan_rules.specs.Rules.{refusal}
use Rattle.plan_check.specs.Meaning.{plan_of}
use Rattle.runs.specs.Searches.{any_below}
use Rattle.plan_rules.proofs.Limit.{refusal_limit}
use Rattle.runs.specs.Verdict.{Verdict, CLEAR, DOOMED, OPEN}
use Rattle.members.specs.Members.{MemberCall}
use Rattle.members.specs.Model.{member_refusal}
use Rattle.members.proofs.Answers.{number_limit}
use Rattle.member_list.specs.Members.{member_in}
use Rattle.member_list.specs.Model.{bad_member, members_refusal}
use Rattle.member_calls.specs.Calls.{MemberCalled}
use Rattle.member_calls.specs.Model.{member_call_refusal, member_return}
use Rattle.capi_numbers.specs.Numbers.{verdict_number}
use Rattle.capi.specs.Told.{verdict_by, MemberNumber}

-- the greatest number is 32
told_limit : (r n : ℕ) (v : Verdict) → r ≤ 32 → inl n ≡ refused_or r v → n < 128
told_limit zero n v l e = let z : n ≡ 0 = ap number_in e in omega (arith, z)
told_limit (suc r) n v l e = let z : n ≡ suc r = ap number_in e in omega (arith, z, l)

module _ (b ms : List ℕ) (c : MemberCall) where
  abbrev short : Bool
  short = ltb (length ms) (node_count b)

  abbrev bad : Bool
  bad = any_below (node_count b) (bad_member b ms)

  call_limit : member_call_refusal b ms c ≤ 32
  unfolding member_call_refusal members_refusal
  call_limit = first_limit 32 (members_refusal b ms) (member_refusal (plan_of b) (member_in b ms) c)
      (first_limit 32 (refusal b) (cond short 15 (cond bad 16 0)) (omega (arith, refusal_limit b))
      (cond_limit 32 short 15 (cond bad 16 0) (omega arith) (cond_limit 32 bad 16 0 (omega arith) (omega arith))))
      (number_limit (plan_of b) (member_in b ms) c)

  small : {n : ℕ} → inl n ≡ member_return b ms c → n < 128
  unfolding member_return
  small {n} e = told_limit (member_call_refusal b ms c) n _ call_limit e

tells : (a : ℕ ⊎ Verdict) → ((n : ℕ) → inl n ≡ a → n < 128) → a ≡ verdict_by (verdict_number a)
tells (inl n) h = let l = h n refl in
    rw (
      ne_eqb n 128 (λ e. omega (arith, l, e)),
      ne_eqb n 129 (λ e. omega (arith, l, e)),
      ne_eqb n 130 (λ e. omega (arith, l, e)),
    ) refl
tells (inr CLEAR) h = refl
tells (inr DOOMED) h = refl
tells (inr OPEN) h = refl

pub member_told : {b ms : List ℕ} {c : MemberCall} {a : ℕ ⊎ Verdict} {r : ℕ} {ms' : List ℕ} → MemberCalled b ms c a ms'
    → r ≡ verdict_number a → MemberNumber b ms c r ms'
member_told {b} {ms} {c} {a} h e = rw e (record {
  returns = ap verdict_number h.returns;
  called = rw (← tells a (λ n q. small b ms c (q ∙ h.returns))) h;
})
