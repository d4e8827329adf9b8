-- What the C calls return whose answers are told by numbers: an equation for the number, and what it tells in 01's
-- words and 02's. Definitions only.
use Rattle.std.specs.Prelude.{◌≡◌, ◌⊎◌, ◌↔◌, cond, List, ℕ, ◌-◌, ◌^◌, eqb, ltb}
use Rattle.std.proofs.Common.{inl, inr}
use Rattle.plan_rules.specs.Rules.{refusal}
use Rattle.plan_check.specs.Meaning.{plan_of, start_of}
use Rattle.plan_blocked.specs.Blocked.{plan_under, refusal_under}
use Rattle.runs.specs.Blocked.{Refused28, Refused29}
use Rattle.runs.specs.Execution.{Complete}
use Rattle.runs.specs.Verdict.{Verdict, CLEAR, DOOMED, OPEN, Judged}
use Rattle.runs.specs.Searches.{listed}
use Rattle.runs.specs.Violations.{NeverViolates, NeverCompletes}
use Rattle.run_state.specs.State.{status_in, state_refusal_under}
use Rattle.run_monitor.specs.Status.{COMPLETE, status_answer}
use Rattle.verdict.specs.Verdict.{answer_of}
use Rattle.text_listing.specs.Model.{text_of}
use Rattle.text_listing.specs.Sentences.{IsListing}
use Rattle.listing.specs.Listing.{listed_of, listing_left}
use Rattle.sequences.specs.Word.{sequence_in}
use Rattle.sequence.specs.Sequence.{sequence_answer, SoughtOf}
use Rattle.members.specs.Members.{MemberCall}
use Rattle.member_calls.specs.Calls.{MemberCalled}
use Rattle.member_calls.specs.Model.{member_return}
use Rattle.plan_draws.specs.declared.Recipe.{Recipe}
use Rattle.plan_generate.specs.Model.{generate_answer}
use Rattle.plan_generate.specs.Calls.{Generates}
use Rattle.plan_merge.specs.Model.{merge_answer}
use Rattle.plan_merge.specs.Calls.{Merges}
use Rattle.capi_numbers.specs.Numbers.{verdict_number, status_number, written_number, sequence_number}

-- r is the number of the answer for the plan and the list xs of blocked nodes: 28 and 29 in 02's words; accepted, it is
-- the number of the verdict that 01 defines, on what is left of the plan
pub record VerdictNumber (b xs : List ℕ) (r : ℕ) : Type 0 where
  pub returns : r ≡ verdict_number (answer_of b xs)
  pub refused_28 : refusal b ≡ 0 → (r ≡ 28) ↔ Refused28 (plan_of b) xs
  pub refused_29 : refusal b ≡ 0 → (r ≡ 29) ↔ ((¬ Refused28 (plan_of b) xs) × Refused29 (plan_of b) xs)
  pub judged : refusal_under b xs ≡ 0 → (v : Verdict)
      → (r ≡ verdict_number (inr v)) ↔ Judged (plan_under b xs) (start_of b) v
  pub clear : refusal_under b xs ≡ 0 → (r ≡ verdict_number (inr CLEAR)) ↔ NeverViolates (plan_of b) (listed xs)
      (start_of b)
  pub doomed : refusal_under b xs ≡ 0 → r ≡ verdict_number (inr DOOMED)
      → NeverCompletes (plan_of b) (listed xs) (start_of b)

-- r is the number of the answer for the state, with the list xs; accepted, it is the number of COMPLETE exactly if the
-- state shows the root complete
pub record StatusNumber (b xs s : List ℕ) (r : ℕ) : Type 0 where
  pub returns : r ≡ status_number (status_answer b xs s)
  pub complete : state_refusal_under b xs s ≡ 0
      → (r ≡ status_number (inr COMPLETE)) ↔ Complete (plan_under b xs) (status_in b s) 0

-- r is the number of the answer, and out' has every byte that the listing leaves; 01's words hold of the text of an
-- accepted plan, and of no other
pub record ListingNumber (b out : List ℕ) (r : ℕ) (out' : List ℕ) : Type 0 where
  pub returns : r ≡ written_number (listed_of b out)
  pub leaves : out' ≡ listing_left b out
  pub text : refusal b ≡ 0 → (s : List ℕ) → IsListing b s ↔ (s ≡ text_of b)

-- what a number tells: below 2^56 a refusal, and otherwise a sequence
abbrev pub told_by : ℕ → ℕ ⊎ List ℕ
told_by r = cond (ltb r (2 ^ 56)) (inl r) (inr (sequence_in r))

-- r is the number of the answer; what it tells is the answer in 02's words, and r has nothing else
pub record SequenceNumber (b : List ℕ) (r : ℕ) : Type 0 where
  pub returns : r ≡ sequence_number (sequence_answer b)
  pub sought : SoughtOf b (told_by r)
  pub exact : r ≡ sequence_number (told_by r)

-- what the number of a verdict or a refusal tells
abbrev pub verdict_by : ℕ → ℕ ⊎ Verdict
verdict_by r = cond (eqb r 128) (inr CLEAR) (cond (eqb r 129) (inr DOOMED) (cond (eqb r 130) (inr OPEN) (inl r)))

-- r is the number of the answer of a call that includes or excludes a member; what it tells is the answer in 02's
-- words, and ms' has every byte of the list after it
pub record MemberNumber (b ms : List ℕ) (c : MemberCall) (r : ℕ) (ms' : List ℕ) : Type 0 where
  pub returns : r ≡ verdict_number (member_return b ms c)
  pub called : MemberCalled b ms c (verdict_by r) ms'

-- what the number of a length or a refusal tells
abbrev pub written_by : ℕ → ℕ ⊎ ℕ
written_by k = cond (ltb k 256) (inl k) (inr (k - 256))

-- k is the number of the answer of a call that generates a plan; what it tells is the answer in 02's words, and out'
-- has every byte after it
pub record GeneratedNumber (r : Recipe) (out : List ℕ) (k : ℕ) (out' : List ℕ) : Type 0 where
  pub returns : k ≡ written_number (generate_answer r out)
  pub generates : Generates r out (written_by k) out'

-- k is the number of the answer of a call that merges the plans b and c; what it tells is the answer in 02's words, and
-- out' has every byte after it
pub record MergedNumber (b c out : List ℕ) (k : ℕ) (out' : List ℕ) : Type 0 where
  pub returns : k ≡ written_number (merge_answer b c out)
  pub merges : Merges b c out (written_by k) out'
