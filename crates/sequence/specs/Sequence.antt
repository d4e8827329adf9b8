-- The answer for a plan (01: book): a refusal, or a sequence of the root's children (02: a serial order, 101, 109).
-- Definitions only.
use Rattle.std.specs.Prelude.{◌≡◌, ◌≢◌, ◌⊎◌, ◌↔◌, ℕ, ◌≤◌, ◌<◌, length}
use Rattle.std.proofs.Common.{inl, inr}
use mathlib.Core.List.{List, Memᴰ as Among}
use Rattle.std.specs.declared.result.Result.{Result}
use Rattle.std.specs.declared.result.Result.TheVariants.{Ok, Err}
use Rattle.answers.specs.declared.Refusal.{Refusal}
use Rattle.answers.specs.Refusals.{number}
use Rattle.base.specs.Answers.{refused_else}
use Rattle.plan_format.specs.Format.{node_count}
use Rattle.plan_rules.specs.Rules.{refusal}
use Rattle.plan_check.specs.Meaning.{plan_of, start_of}
use Rattle.sequences.specs.Sequences.{Refused23, SerialClear, FirstClear, Sought}
use Rattle.sequences.specs.Model.{sequence_of}
use Rattle.sequences.specs.Word.{sequence_word, sequence_in}

-- a refusal, or a sequence as a word
abbrev pub Finding : Type 0
Finding = Result ℕ Refusal

-- 02's number, or the nodes one after another, for each case
abbrev pub found_in : Finding → ℕ ⊎ List ℕ
found_in (Err e) = inl (number e)
found_in (Ok w) = inr (sequence_in w)

-- the answer computed
unfoldable pub sequence_answer : List ℕ → ℕ ⊎ List ℕ
sequence_answer b = refused_else (refusal b) (sequence_of (plan_of b) (start_of b))

-- a number or a list of nodes is the answer: 1 to 14 come first; then 23; 24, and no such sequence exists; or the first
-- one
pub record SoughtOf (b : List ℕ) (a : ℕ ⊎ List ℕ) : Type 0 where
  pub refused : refusal b ≢ 0 → a ≡ inl (refusal b)
  pub sought : refusal b ≡ 0 → Sought (plan_of b) (start_of b) a
  pub refused_23 : refusal b ≡ 0 → (a ≡ inl 23) ↔ Refused23 (plan_of b)
  pub refused_24 : refusal b ≡ 0
      → (a ≡ inl 24) ↔ ((¬ Refused23 (plan_of b)) × ((xs : List ℕ) → ¬ SerialClear (plan_of b) (start_of b) xs))
  pub found : refusal b ≡ 0 → (xs : List ℕ)
      → (a ≡ inr xs) ↔ ((¬ Refused23 (plan_of b)) × FirstClear (plan_of b) (start_of b) xs)
  -- a sequence has 1 to 7 nodes, each of the plan
  pub sized : (xs : List ℕ) → a ≡ inr xs → (0 < length xs) × (length xs ≤ 7)
  pub nodes : (xs : List ℕ) → a ≡ inr xs → (c : ℕ) → Among c xs → c < node_count b

-- the word of a sequence has nothing but the sequence
abbrev pub Exact : Finding → Type 0
Exact r = (w : ℕ) → r ≡ Ok w → w ≡ sequence_word (sequence_in w)

pub record Sequenced (b : List ℕ) (r : Finding) : Type 0 where
  pub returns : found_in r ≡ sequence_answer b
  pub sought : SoughtOf b (found_in r)
  pub exact : Exact r
