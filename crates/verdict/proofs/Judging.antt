-- The verdict, from the words of the root. Assumes nothing.
use mathlib.Core.Path.{◌≡◌, refl, sym, ap, ◌∙◌}
use mathlib.Core.Logic.Iff
use mathlib.Core.Logic.{◌⊎◌, inl, inr, by_cases, ◌↔◌}
use mathlib.Core.Bool.{Bool}
use mathlib.Core.List.{List, []}
use Prim.Native.Nat.{ℕ, suc, ◌^◌, ◌<◌, ◌≤◌}
use native.Mathlib.Omega.{arith}
use Rattle.std.specs.declared.result.Result.TheVariants.{Ok, Err}
use Rattle.answers.specs.declared.Refusal.{Refusal}
use Rattle.answers.specs.Refusals.{number}
use Rattle.answers.proofs.Refusals.{some_number}
use Rattle.base.specs.Words.{Says}
use Rattle.base.proofs.Words.{no_bits}
use Rattle.base.proofs.Says.{no_flag}
use Rattle.base.proofs.First.{first_none, answer_none, answer_some, answer_tells}
use Rattle.plan_rules.specs.Rules.{refusal}
use Rattle.plan_check.specs.Meaning.{plan_of, start_of}
use Rattle.plan_check.proofs.Accepted.{clean}
use Rattle.plan_check.proofs.Meaning.{means, means_well_formed}
use Rattle.plan_blocked.specs.Blocked.{plan_under, refusal_under}
use Rattle.plan_blocked.proofs.Refused.{plan_accepted, blocks, under_well_formed, none_under}
use Rattle.plan_blocked.proofs.Standing.{all_stand}
use Rattle.node_sets.specs.Sets.{AllMarked}
use Rattle.runs.specs.Searches.{listed}
use Rattle.runs.specs.Plan.{Plan}
use Rattle.runs.specs.WellFormed.{WellFormed}
use Rattle.runs.specs.Model.Blocked.{without, blocked_refusal}
use Rattle.runs.proofs.Blocked.Branches.{refusal_28, refusal_29, blocks_nothing, blocked_well_formed}
use Rattle.runs.specs.Summary.{Mark, may_pre, must_pre, may_clobber, must_clobber}
use Rattle.runs.specs.Verdict as verdicts
use Rattle.runs.specs.Verdict.{CLEAR, DOOMED, OPEN, Judged}
use Rattle.runs.specs.Model.Verdicts.{Fails}
use Rattle.runs.specs.Demand3.{Demand3On}
use Rattle.runs.specs.Model.Verdicts.{verdict}
use Rattle.runs.proofs.Reflect.{decided}
use Rattle.runs.proofs.Verdict.Exact.{MayFail, MustFail, SomeLiteral, may_fail_flag, must_fail_may, r_must_fail}
use Rattle.runs.proofs.Verdict.Exact.{clear_is, doomed_is, verdict_exact}
use Rattle.runs.proofs.Calls.Demand3.{demand3}
use Rattle.marks_words.specs.Words.{MarkWords, StartWord, FailsWord}
use Rattle.table_marks.specs.Marks.{LeftWords}
use Rattle.verdict.specs.declared.Verdict.{Verdict}
use Rattle.verdict.specs.Verdict.{Answer, word_of, said, answer_of, Assessed}
use Rattle.verdict.specs.Inner.{OfWords, OfStanding}

-- ---- a word without bits: no literal fails
module _ (p : Plan) (F : ℕ → Bool) (m k : Mark) {w : ℕ} where
  none_fails : ((f : ℕ) → f < 64 → Says w f ((v : Bool) × Fails p F m k f v))
      → ((f : ℕ) (v : Bool) → Fails p F m k f v → f < 64)
      → w ≡ 0 → ¬ SomeLiteral (Fails p F m k)
  none_fails s on e x = no_flag w x.0 e ((s x.0 (on x.0 x.1 x.2)).from (x.1, x.2))

  some_fails : w < 2 ^ 64 → ((f : ℕ) → f < 64 → Says w f ((v : Bool) × Fails p F m k f v)) → (w ≡ 0 → ⊥)
      → ¬ (¬ SomeLiteral (Fails p F m k))
  some_fails small s n h = n (no_bits w small (λ f l t. let x = (s f l).to t in h (f, x.0, x.1)))

-- ---- the verdict, by what may and what must fail
module _ (p : Plan) (w : WellFormed p) (F : ℕ → Bool) where
  clear_verdict : ¬ SomeLiteral (MayFail p F) → CLEAR ≡ verdict p F
  clear_verdict h = sym ((verdict_exact p w F CLEAR).1 ((clear_is p w F).1 h))

  doomed_verdict : ¬ (¬ SomeLiteral (MustFail p F)) → DOOMED ≡ verdict p F
  doomed_verdict h = by_cases (decided (r_must_fail p w F))
      (λ (x : SomeLiteral (MustFail p F)). sym ((verdict_exact p w F DOOMED).1 ((doomed_is p w F).1 x)))
      (λ n. absurd (h n))

  open_verdict : ¬ (¬ SomeLiteral (MayFail p F)) → ¬ SomeLiteral (MustFail p F) → OPEN ≡ verdict p F
  open_verdict h k = sym ((verdict_exact p w F OPEN).1 (λ c. h ((clear_is p w F).0 c), λ d. k ((doomed_is p w F).0 d)))

-- what fails is on a flag below 64
module _ (p : Plan) (w : WellFormed p) (l : p.conditions.flags ≤ 64) (F : ℕ → Bool) where
  may_small : (f : ℕ) (v : Bool) → MayFail p F f v → f < 64
  may_small f v x = omega (arith, l, may_fail_flag p w F f v x)

  must_small : (f : ℕ) (v : Bool) → MustFail p F f v → f < 64
  must_small f v x = may_small f v (must_fail_may p w F f v x)

  -- the words of the root and of the start: the flags with a literal that may fail, that must fail
  module _ {words : List ℕ} {start : ℕ} (m : MarkWords p 0 words) (s : StartWord F start) where
    clear_if : {x : ℕ} → FailsWord words start 6 0 x → x ≡ 0 → ¬ SomeLiteral (MayFail p F)
    clear_if {x} f e = none_fails p F may_clobber may_pre (f p F m s may_clobber may_pre refl refl) may_small e

    may_if : {x : ℕ} → x < 2 ^ 64 → FailsWord words start 6 0 x → (x ≡ 0 → ⊥) → ¬ (¬ SomeLiteral (MayFail p F))
    may_if k f n = some_fails p F may_clobber may_pre k (f p F m s may_clobber may_pre refl refl) n

    pub judged_clear : {x : ℕ} → FailsWord words start 6 0 x → x ≡ 0 → CLEAR ≡ verdict p F
    judged_clear f e = clear_verdict p w F (clear_if f e)

    pub judged_doomed : {y : ℕ} → y < 2 ^ 64 → FailsWord words start 7 1 y → (y ≡ 0 → ⊥) → DOOMED ≡ verdict p F
    judged_doomed k g n = doomed_verdict p w F (some_fails p F must_clobber must_pre k
        (g p F m s must_clobber must_pre refl refl) n)

    pub judged_open : {x y : ℕ} → x < 2 ^ 64 → FailsWord words start 6 0 x → (x ≡ 0 → ⊥) → FailsWord words start 7 1 y
        → y ≡ 0 → OPEN ≡ verdict p F
    judged_open k f n g e = open_verdict p w F (may_if k f n)
        (none_fails p F must_clobber must_pre (g p F m s must_clobber must_pre refl refl) must_small e)

-- the plan that is left has no more flags
pub left_flags : (b : List ℕ) → refusal b ≡ 0 → (S : ℕ → Bool) → (without (plan_of b) S).conditions.flags ≤ 64
left_flags b ok S = omega (arith, (means b ok).flags, (clean b ok).fits.limits.flags)

-- from the marks of the root of what is left
pub of_marks : {b table words : List ℕ} {start : ℕ} (v : Verdict) → refusal b ≡ 0 → LeftWords b table 0 words
    → StartWord (start_of b) start → OfWords words start v → OfStanding b table v
of_marks {b} v ok m s o S k h =
    let w = blocked_well_formed (plan_of b) (means_well_formed b ok) S k in
    o (without (plan_of b) S) (start_of b) w (left_flags b ok S) (m S k h w.root_node) s

-- with every node marked the verdict is that of the whole plan
pub whole_verdict : (b : List ℕ) → refusal b ≡ 0 → (table : List ℕ) → AllMarked table → (v : Verdict)
    → OfStanding b table v → word_of v ≡ verdict (plan_of b) (start_of b)
whole_verdict b ok table all v h =
    h (listed []) (blocks_nothing (plan_of b) (means_well_formed b ok)) (all_stand b ok table all)
    ∙ ap (λ (p : Plan). verdict p (start_of b)) (none_under b ok)

-- ---- the whole answer
abbrev word_in : verdicts.Verdict → ℕ ⊎ verdicts.Verdict → verdicts.Verdict
word_in other (inl n) = other
word_in other (inr v) = v

module _ (b xs : List ℕ) where
  -- 28 and 29
  numbers : (a : Answer) → said a ≡ answer_of b xs → (k : ℕ) → refusal b ≡ 0
      → (said a ≡ inl (suc k)) ↔ (blocked_refusal (plan_of b) xs ≡ suc k)
  unfolding answer_of refusal_under
  numbers a e k ok = let z = first_none (refusal b) (blocked_refusal (plan_of b) xs) ok in
      Iff.trans (Iff.trans (λ q. sym e ∙ q, λ q. e ∙ q) (answer_tells _ k _)) (λ q. z ∙ q, λ q. sym z ∙ q)

  pub assessed_refused : {r : Refusal} → number r ≡ refusal_under b xs → Assessed b xs (Err r)
  unfolding answer_of
  assessed_refused {r} e = record {
    returns = q;
    refused_28 = λ ok. Iff.trans (numbers (Err r) q 27 ok) (refusal_28 (plan_of b) (means_well_formed b ok) xs);
    refused_29 = λ ok. Iff.trans (numbers (Err r) q 28 ok) (refusal_29 (plan_of b) (means_well_formed b ok) xs);
    judged = λ z. absurd (some z);
    clear = λ z. absurd (some z);
    doomed = λ z. absurd (some z);
  }
    where
      some : refusal_under b xs ≡ 0 → ⊥
      some z = some_number r (e ∙ z)

      q : said (Err r) ≡ answer_of b xs
      q = ap inl e ∙ answer_some (refusal_under b xs) _ some

  pub assessed : (v : Verdict) → refusal_under b xs ≡ 0 → word_of v ≡ verdict (plan_under b xs) (start_of b)
      → Assessed b xs (Ok v)
  unfolding answer_of
  assessed v z e = record {
    returns = q;
    refused_28 = λ ok. Iff.trans (numbers (Ok v) q 27 ok) (refusal_28 (plan_of b) (means_well_formed b ok) xs);
    refused_29 = λ ok. Iff.trans (numbers (Ok v) q 28 ok) (refusal_29 (plan_of b) (means_well_formed b ok) xs);
    judged = λ z. is;
    clear = λ z. Iff.trans (is CLEAR) d.clear;
    doomed = λ z q. d.doomed ((is DOOMED).0 q);
  }
    where
      q : said (Ok v) ≡ answer_of b xs
      q = ap inr e ∙ answer_none (refusal_under b xs) _ z

      d : Demand3On (plan_of b) (listed xs) (start_of b)
      d = demand3 (plan_of b) (means_well_formed b (plan_accepted b xs z)) (listed xs) (blocks b xs z) (start_of b)

      is : (u : verdicts.Verdict) → (said (Ok v) ≡ inr u) ↔ Judged (plan_under b xs) (start_of b) u
      is u = Iff.trans (λ q. sym e ∙ ap (word_in u) q, λ q. ap inr (e ∙ q))
          (verdict_exact (plan_under b xs) (under_well_formed b xs z) (start_of b) u)
