-- What `merge` and `assess` answer for the rows of merged plans, as tests that compute. Assumes nothing.
use mathlib.Core.Path.{◌≡◌, ap, ◌∙◌}
use mathlib.Core.Logic.{◌⊎◌, inr}
use mathlib.Core.Bool.{Bool, true, cond}
use mathlib.Core.List.{List, [], ◌∷◌}
use Prim.Native.Nat.{ℕ}
use lib.Dec.{T, eqb, ltb}
use lib.ListN.{take}
use Rattle.base.specs.Answers.{first, refused_or}
use Rattle.runs.specs.Tests.{both}
use Rattle.runs.specs.Verdict.{Verdict}
use Rattle.runs.proofs.Reflect.{Reflects, r_both, r_T, r_eq}
use Rattle.plan_rules.specs.Rules.{refusal}
use Rattle.plan_layout.specs.Layout.{plan_length}
use Rattle.verdict.specs.Verdict.{answer_of}
use Rattle.plan_merge.specs.Model.{merged_sizes, refused33, refused34, pair_refusal, merge_refusal, merge_answer}
use Rattle.plan_merge.specs.Model.{merge_left}
use Rattle.run_trials.specs.Written.{bytes_of}
use Rattle.run_trials.specs.Merged.{MergeRow, RowMerged, AllMerged, JudgedRow, lent, RowJudged, AllJudged}
use Rattle.run_trials.proofs.Sequences.{same_answer, same_answer_lem}
use Rattle.run_trials.proofs.Members.{same_verdict, r_verdict}

-- ---- what is answered where n bytes are lent
unfoldable pub answer_in : List ℕ → List ℕ → ℕ → ℕ ⊎ ℕ
answer_in b c n = refused_or (first (refusal b) (first (refusal c)
    (cond (refused33 b c) 33 (cond (refused34 b c) 34 (cond (ltb n (plan_length (merged_sizes b c))) 15 0)))))
    (plan_length (merged_sizes b c))

unfoldable pub merge_b : MergeRow → Bool
merge_b w = same_answer eqb (answer_in (bytes_of w.first) (bytes_of w.second) w.room) w.answer

row_merged : (w : MergeRow) → T (merge_b w) → RowMerged w
unfolding merge_b answer_in merge_answer merge_refusal pair_refusal
row_merged w t out out' a l m = m.returns ∙ rw l (same_answer_lem eqb r_eq _ _ t)

unfoldable pub all_merged_b : List MergeRow → Bool
all_merged_b [] = true
all_merged_b (w ∷ l) = both (merge_b w) (λ u. all_merged_b l)

pub all_merged : (l : List MergeRow) → T (all_merged_b l) → AllMerged l
unfolding all_merged_b
all_merged [] t = tt
all_merged (w ∷ l) t =
    let r : Reflects (both (merge_b w) (λ u. all_merged_b l)) (T (merge_b w) × T (all_merged_b l))
    = r_both _ _ (r_T _) (r_T _) in
    let (x, y) = r.to t in (row_merged w x, all_merged l y)

-- ---- the verdicts
unfoldable pub merged_bytes : List ℕ → List ℕ → List ℕ
merged_bytes b c = take (plan_length (merged_sizes b c)) (merge_left b c lent)

unfoldable pub judged_b : List ℕ → Verdict → Bool
judged_b b v = same_answer same_verdict (answer_of b []) (inr v)

judged_is : (b : List ℕ) (v : Verdict) → T (judged_b b v) → answer_of b [] ≡ inr v
unfolding judged_b
judged_is b v t = same_answer_lem same_verdict r_verdict _ _ t

module _ (w : JudgedRow) where
  abbrev b : List ℕ
  b = bytes_of w.first

  abbrev c : List ℕ
  c = bytes_of w.second

  abbrev accepted : Bool
  accepted = eqb (merge_refusal b c lent) 0

  unfoldable pub judged_row_b : Bool
  judged_row_b = both accepted (λ u. both (judged_b b w.first_is)
      (λ u. both (judged_b c w.second_is) (λ u. judged_b (merged_bytes b c) w.merged_is)))

  row_judged : T judged_row_b → RowJudged w
  unfolding judged_row_b merged_bytes merge_answer
  row_judged t out' a m =
      let r : Reflects judged_row_b (T accepted × (T (judged_b b w.first_is)
      × (T (judged_b c w.second_is) × T (judged_b (merged_bytes b c) w.merged_is))))
      = r_both _ _ (r_T _) (r_both _ _ (r_T _) (r_both _ _ (r_T _) (r_T _))) in
      let (o, p, q) = flat (r.to t) in
      let n = plan_length (merged_sizes b c) in
      let e : take n out' ≡ merged_bytes b c = rw m.leaves in (
        n,
        m.returns ∙ ap (λ (k : ℕ). refused_or k n) ((r_eq (merge_refusal b c lent) 0).to o),
        λ x y z hx hy hz. (
          hx.returns ∙ judged_is b w.first_is p,
          hy.returns ∙ judged_is c w.second_is q.0,
          (rw e at hz.returns) ∙ judged_is (merged_bytes b c) w.merged_is q.1,
        ),
      )
    where
      flat : {A B C : Type 0} → A × (B × C) → A × B × C
      flat (x, y) = (x, y.0, y.1)

unfoldable pub all_judged_b : List JudgedRow → Bool
all_judged_b [] = true
all_judged_b (w ∷ l) = both (judged_row_b w) (λ u. all_judged_b l)

pub all_judged : (l : List JudgedRow) → T (all_judged_b l) → AllJudged l
unfolding all_judged_b
all_judged [] t = tt
all_judged (w ∷ l) t =
    let r : Reflects (both (judged_row_b w) (λ u. all_judged_b l)) (T (judged_row_b w) × T (all_judged_b l))
    = r_both _ _ (r_T _) (r_T _) in
    let (x, y) = r.to t in (row_judged w x, all_judged l y)
