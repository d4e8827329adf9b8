-- What is answered for a sequence, as one test that computes; whether two answers of any kind are the same. Assumes
-- nothing.
use mathlib.Core.Path.{◌≡◌, ap, ◌∙◌}
use mathlib.Core.Logic.{◌⊎◌, inl, inr}
use mathlib.Core.Bool.{Bool, true, false}
use mathlib.Core.List.{List, [], ◌∷◌}
use Prim.Native.Nat.{ℕ}
use lib.Dec.{T, eqb}
use Rattle.runs.specs.Tests.{both, same_list}
use Rattle.runs.proofs.Reflect.{Reflects, r_both, r_T, r_eq, r_list}
use Rattle.sequence.specs.Sequence.{sequence_answer}
use Rattle.run_trials.specs.Written.{bytes_of}
use Rattle.run_trials.specs.Sequences.{SequenceRow, AllSequenced}

-- two answers are the same, by a test of what is answered beside numbers
module _ {A : Type 0} (same : A → A → Bool) where
  unfoldable pub same_answer : ℕ ⊎ A → ℕ ⊎ A → Bool
  same_answer (inl n) (inl k) = eqb n k
  same_answer (inl n) (inr y) = false
  same_answer (inr x) (inl k) = false
  same_answer (inr x) (inr y) = same x y

  pub same_answer_lem : ((x y : A) → Reflects (same x y) (x ≡ y)) → (a c : ℕ ⊎ A) → T (same_answer a c) → a ≡ c
  unfolding same_answer
  same_answer_lem r (inl n) (inl k) t = ap inl ((r_eq n k).to t)
  same_answer_lem r (inl n) (inr y) t = absurd t
  same_answer_lem r (inr x) (inl k) t = absurd t
  same_answer_lem r (inr x) (inr y) t = ap inr ((r x y).to t)

unfoldable pub sequence_b : SequenceRow → Bool
sequence_b c = same_answer same_list (sequence_answer (bytes_of c.plan)) c.answer

unfoldable pub all_sequenced_b : List SequenceRow → Bool
all_sequenced_b [] = true
all_sequenced_b (c ∷ l) = both (sequence_b c) (λ u. all_sequenced_b l)

pub all_sequenced : (l : List SequenceRow) → T (all_sequenced_b l) → AllSequenced l
unfolding sequence_b all_sequenced_b
all_sequenced [] x = tt
all_sequenced (c ∷ l) x =
    let r : Reflects (both (sequence_b c) (λ u. all_sequenced_b l)) (T (sequence_b c) × T (all_sequenced_b l))
    = r_both _ _ (r_T _) (r_T _) in
    let (a, y) = r.to x in
    (λ f s. s.returns ∙ same_answer_lem same_list r_list _ _ a, all_sequenced l y)
