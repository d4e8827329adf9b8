-- What a call that merges two plans answers, and every byte that it leaves (02: "Pooling two books", 112). Definitions
-- only.
use Rattle.std.specs.Prelude.{◌≡◌, ◌≢◌, ◌⊎◌, ◌↔◌, List, ℕ, ◌+◌, ◌<◌, ◌≤◌, length, get_or, take}
use Rattle.std.proofs.Common.{inl, inr}
use Rattle.plan_format.specs.Format.{node_count, cond_count, order_count, flag_count, start_flag}
use Rattle.plan_rules.specs.Rules.{refusal}
use Rattle.plan_check.specs.Meaning.{plan_of, start_of}
use Rattle.runs.specs.Verdict.{Clear}
use Rattle.merges.specs.Collisions.{BothClear}
use Rattle.plan_merge.specs.Sentences.{IsMerged}
use Rattle.plan_merge.specs.Model.{merge_answer, merge_left}

module _ (b c : List ℕ) where
  -- "the first book and then the second have passed 1 to 14"
  pub record BothPass : Type 0 where
    pub first_passes : refusal b ≡ 0
    pub second_passes : refusal c ≡ 0

  -- "a pooled size passes its limit"; V, the larger of two, never does
  pub data OverLimit : Type 0 where
    by_nodes : 128 < 1 + node_count b + node_count c → OverLimit
    by_conditions : 1024 < cond_count b + cond_count c → OverLimit
    by_orders : 512 < order_count b + order_count c → OverLimit

  -- "a flag that both books have starts differently"
  pub record StartsApart : Type 0 where
    pub flag : ℕ
    pub in_first : flag < flag_count b
    pub in_second : flag < flag_count c
    pub differs : start_flag b flag ≢ start_flag c flag

  -- the merged plan is longer than the lent memory
  pub record MergedLonger (out : List ℕ) : Type 0 where
    pub plan : List ℕ
    pub is_merged : IsMerged b c plan
    pub longer : length out < length plan

  -- the call is refused with n: "33 when .., checked after the first book and then the second have passed 1 to 14. 34
  -- when .., checked after 33; 15 follows"
  pub data MergeRefused (out : List ℕ) (n : ℕ) : Type 0 where
    first_refused : refusal b ≢ 0 → n ≡ refusal b → MergeRefused out n
    second_refused : refusal b ≡ 0 → refusal c ≢ 0 → n ≡ refusal c → MergeRefused out n
    too_large : BothPass → OverLimit → n ≡ 33 → MergeRefused out n
    starts_apart : BothPass → ¬ OverLimit → StartsApart → n ≡ 34 → MergeRefused out n
    too_short : BothPass → ¬ OverLimit → ¬ StartsApart → MergedLonger out → n ≡ 15 → MergeRefused out n

-- the call with the plans b and c and the lent memory out: a is its answer, out' the memory after it
pub record Merges (b c out : List ℕ) (a : ℕ ⊎ ℕ) (out' : List ℕ) : Type 0 where
  pub returns : a ≡ merge_answer b c out
  pub leaves : out' ≡ merge_left b c out
  pub refused : (n : ℕ) → (a ≡ inl n) ↔ MergeRefused b c out n
  pub unchanged : (n : ℕ) → a ≡ inl n → out' ≡ out
  -- the plan from the first byte on; "The pooled length is returned and later bytes are kept"
  pub fits : (n : ℕ) → a ≡ inr n → n ≤ length out
  pub made : (n : ℕ) → a ≡ inr n → IsMerged b c (take n out')
  pub kept : (n : ℕ) → a ≡ inr n → (i : ℕ) → n ≤ i → get_or out' i 0 ≡ get_or out i 0
  pub as_long : length out' ≡ length out
  -- "The pooled book is CLEAR exactly when both are and no literal .."
  pub clear : (n : ℕ) → a ≡ inr n → Clear (plan_of (take n out')) (start_of (take n out'))
      ↔ BothClear (plan_of b) (plan_of c) (start_of b) (start_of c)
