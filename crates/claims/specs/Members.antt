-- Lists of calls that include and exclude members (111): 02's "After every list of these calls on one book from nobody
-- aboard, with nobody else writing the bytes". The hypotheses are what `include`, `exclude` and `assess` promise; what
-- is claimed comes from the plan and the calls alone. Definitions only.
use Rattle.std.specs.Prelude.{◌≡◌, ◌⊎◌, ◌↔◌, Bool, List, [], ◌∷◌, ◌++◌, ℕ, ◌<◌, ◌≤◌, T, length, get_or}
use Rattle.std.proofs.Common.{inr}
use Rattle.std.proofs.Math.Option.{none, some}
use Rattle.base.specs.Count.{num}
use Rattle.plan_format.specs.Format.{node_count}
use Rattle.plan_rules.specs.Rules.{refusal}
use Rattle.plan_check.specs.Meaning.{plan_of, start_of}
use Rattle.runs.specs.Plan.{all_of, Child}
use Rattle.runs.specs.Verdict.{Verdict, CLEAR}
use Rattle.verdict.specs.Verdict.{Answer, said, Assessed}
use Rattle.members.specs.Members.{MembersJudged, nobody, MemberCall, MembersWorked, last_verdict}
use Rattle.member_list.specs.Members.{MembersPass}
use Rattle.member_calls.specs.Calls.{MemberCalled}

-- from the bytes ms, each call gets the bytes as the last one left them: the calls, their answers, the bytes after them
pub data MemberCalls (b : List ℕ) : List ℕ → List MemberCall → List (ℕ ⊎ Verdict) → List ℕ → Type 0 where
  none_made : {ms : List ℕ} → MemberCalls b ms [] [] ms
  next_made : {ms ms' zs : List ℕ} {c : MemberCall} {cs : List MemberCall} {a : ℕ ⊎ Verdict} {rs : List (ℕ ⊎ Verdict)}
      → MemberCalled b ms c a ms' → MemberCalls b ms' cs rs zs → MemberCalls b ms (c ∷ cs) (a ∷ rs) zs

-- "nobody aboard": N bytes, each 0; any bytes may follow
pub record NobodyIn (b ms : List ℕ) : Type 0 where
  pub room : node_count b ≤ length ms
  pub zeros : (i : ℕ) → i < node_count b → get_or ms i 0 ≡ 0

-- the bytes zs show the members A: "1 for aboard and 0 for all else", and 15 and 16 do not apply; later bytes are as
-- they were in ms, before the first call
pub record MembersShown (b ms : List ℕ) (A : ℕ → Bool) (zs : List ℕ) : Type 0 where
  pub bytes : (i : ℕ) → i < node_count b → get_or zs i 0 ≡ num (A i)
  pub passes : MembersPass b zs
  pub later : (i : ℕ) → node_count b ≤ i → get_or zs i 0 ≡ get_or ms i 0
  pub as_long : length zs ≡ length ms

-- the members that 02 works out from the plan and the calls, and what each call answers: 17, 31, 32 or a verdict
abbrev pub MembersCome : List ℕ → List MemberCall → List (ℕ ⊎ Verdict) → (ℕ → Bool) → Type 0
MembersCome b cs rs A = MembersWorked (plan_of b) (start_of b) nobody cs rs A

-- what holds after a list of calls
pub record MembersFollow (b ms : List ℕ) (cs : List MemberCall) (rs : List (ℕ ⊎ Verdict)) (zs : List ℕ) : Type 0 where
  pub after : ℕ → Bool
  pub worked : MembersCome b cs rs after
  pub shown : MembersShown b ms after zs
  -- "the answer that the last accepted call returned equals the answer worked out afresh" for these members: that
  -- verdict and no other; until a call is accepted nobody is a member
  pub last : (v : Verdict) → last_verdict none rs ≡ some v
      → (u : Verdict) → MembersJudged (plan_of b) after (start_of b) u ↔ (u ≡ v)
  pub none_yet : last_verdict none rs ≡ none → (i : ℕ) → ¬ T (after i)
  -- "with nobody aboard it is CLEAR"; with everybody it is the answer for the plan
  pub with_nobody : (v : Verdict) → last_verdict none rs ≡ some v → ((i : ℕ) → ¬ T (after i)) → v ≡ CLEAR
  pub with_everybody : (v : Verdict) → last_verdict none rs ≡ some v
      → ((i : ℕ) → Child (plan_of b) 0 i → T (after i)) → (r : Answer) → Assessed b [] r → said r ≡ inr v

pub record MembersClaimOf (b ms : List ℕ) : Type 0 where
  -- before any call, too, nobody is CLEAR
  pub at_first : (plan_of b).tree.kind 0 ≡ all_of
      → (u : Verdict) → MembersJudged (plan_of b) nobody (start_of b) u ↔ (u ≡ CLEAR)
  -- every list of calls can be made
  pub made : (cs : List MemberCall) → (rs : List (ℕ ⊎ Verdict)) × (zs : List ℕ) × MemberCalls b ms cs rs zs
  -- by the form of a list: the calls up to any one of them are a list themselves, so that `follows` holds after each
  pub up_to : (cs ds : List MemberCall) {rs : List (ℕ ⊎ Verdict)} {zs : List ℕ} → MemberCalls b ms (cs ++ ds) rs zs
      → (ps qs : List (ℕ ⊎ Verdict)) × (ys : List ℕ) × (rs ≡ ps ++ qs) × MemberCalls b ms cs ps ys
      × MemberCalls b ys ds qs zs
  pub follows : {cs : List MemberCall} {rs : List (ℕ ⊎ Verdict)} {zs : List ℕ} → MemberCalls b ms cs rs zs
      → MembersFollow b ms cs rs zs
  -- what is worked out is one: of one list of calls no other answers, no other members
  pub unique : {cs : List MemberCall} {rs qs : List (ℕ ⊎ Verdict)} {A B : ℕ → Bool} → MembersCome b cs rs A
      → MembersCome b cs qs B → (rs ≡ qs) × (A ≡ B)

-- the whole claim, of every accepted plan and all bytes that have nobody aboard
abbrev pub MembersClaim : Type 0
MembersClaim = (b ms : List ℕ) → refusal b ≡ 0 → NobodyIn b ms → MembersClaimOf b ms
