-- 02's sequence of the root's children (101, 109): the plan under it, and which sequence is asked for. Definitions
-- only.
use Rattle.std.specs.Prelude.{◌≡◌, ◌≢◌, ◌⊎◌, ◌↔◌, Bool, ℕ, ◌<◌, T, length}
use Rattle.std.proofs.Common.{inl, inr}
use mathlib.Core.List.{List, ◌∷◌, Memᴰ as Among, Lexᴰ}
use Rattle.runs.specs.Plan.{all_of, Plan, Child}
use Rattle.runs.specs.Verdict.{Clear}

-- a is in the list, and b after it
pub data Ahead (a b : ℕ) : List ℕ → Type 0 where
  at_front : {xs : List ℕ} → Among b xs → Ahead a b (a ∷ xs)
  further_on : {x : ℕ} {xs : List ℕ} → Ahead a b xs → Ahead a b (x ∷ xs)

-- no number comes twice
abbrev pub Once : List ℕ → Type 0
Once xs = (c : ℕ) → ¬ Ahead c c xs

-- 02's "sequence of all the root's children", each once, "agreeing with the book's orders"
pub record Sequence (p : Plan) (xs : List ℕ) : Type 0 where
  pub child : (c : ℕ) → Among c xs → Child p 0 c
  pub every : (c : ℕ) → Child p 0 c → Among c xs
  pub once : Once xs
  pub agrees : (a b : ℕ) → Child p 0 b → T (p.order a b) → Ahead a b xs

-- q is the plan with the sequence's orders added: "each wholly before the next" (02)
pub record InSequence (p : Plan) (xs : List ℕ) (q : Plan) : Type 0 where
  pub tree : q.tree ≡ p.tree
  pub conditions : q.conditions ≡ p.conditions
  pub orders : (a b : ℕ) → T (q.order a b) ↔ (T (p.order a b) ⊎ Ahead a b xs)

-- 23: "the root is not an all_of group or has more than seven children"
pub data Refused23 (p : Plan) : Type 0 where
  not_all_of : p.tree.kind 0 ≢ all_of → Refused23 p
  too_many : (xs : List ℕ) → 7 < length xs → Once xs → ((c : ℕ) → Among c xs → Child p 0 c) → Refused23 p

module _ (p : Plan) (F : ℕ → Bool) where
  -- a sequence "under which the answer is CLEAR" (101)
  pub record SerialClear (xs : List ℕ) : Type 0 where
    pub sequence : Sequence p xs
    pub plan : Plan
    pub ordered : InSequence p xs plan
    pub clear : Clear plan F

  -- "the first one in dictionary order of node numbers: no sequence that precedes it, and meets #101's conditions, is
  -- CLEAR" (109)
  pub record FirstClear (xs : List ℕ) : Type 0 where
    pub serial : SerialClear xs
    pub none_before : (ys : List ℕ) → Lexᴰ ◌<◌ ys xs → ¬ SerialClear ys

  -- the answer for an accepted plan: 23; 24, "when no such sequence exists"; or the first such sequence
  pub data Sought : ℕ ⊎ List ℕ → Type 0 where
    refused_23 : Refused23 p → Sought (inl 23)
    refused_24 : ¬ Refused23 p → ((ys : List ℕ) → ¬ SerialClear ys) → Sought (inl 24)
    found : {xs : List ℕ} → ¬ Refused23 p → FirstClear xs → Sought (inr xs)
