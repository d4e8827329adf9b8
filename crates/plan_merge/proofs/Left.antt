-- An accepted call: all three plans are accepted (`left_accepted`), and what the length is (`length_is`). Assumes
-- nothing.
use mathlib.Core.Path.{◌≡◌, refl, sym, ap, ◌∙◌}
use mathlib.Core.Logic.{◌⊎◌, inr}
use mathlib.Core.List.{List}
use Prim.Native.Nat.{ℕ}
use lib.ListN.{take}
use Rattle.base.specs.Answers.{refused_or}
use Rattle.base.proofs.First.{answer_given}
use Rattle.plan_rules.specs.Rules.{refusal}
use Rattle.plan_layout.specs.Layout.{plan_length}
use Rattle.plan_merge.specs.Model.{merged_sizes, merge_refusal, merge_answer}
use Rattle.plan_merge.specs.Calls.{Merges}
use Rattle.plan_merge.proofs.Calls.{Passed, passed}

module _ {b c out out' : List ℕ} {n : ℕ} (m : Merges b c out (inr n) out') where
  none : merge_refusal b c out ≡ 0
  unfolding merge_answer
  none = answer_given (merge_refusal b c out) (plan_length (merged_sizes b c)) n (sym m.returns)

  ok : Passed b c out
  ok = passed b c out none

  pub length_is : n ≡ plan_length (merged_sizes b c)
  unfolding merge_answer
  length_is = let e : ◌≡◌ {A = ℕ ⊎ ℕ} (inr n) (inr (plan_length (merged_sizes b c))) =
      m.returns ∙ ap (λ (r : ℕ). refused_or r (plan_length (merged_sizes b c))) none in cc

  pub left_accepted : (refusal b ≡ 0) × (refusal c ≡ 0) × (refusal (take n out') ≡ 0)
  left_accepted = (ok.mergeable.first_passes, ok.mergeable.second_passes, (m.made n refl).passes)
