-- What calls that include and exclude members answer and leave, as one test that computes. Assumes nothing.
use mathlib.Core.Path.{◌≡◌, refl, ◌∙◌}
use mathlib.Core.Logic.{◌⊎◌}
use mathlib.Core.Bool.{Bool, true, false, decide}
use mathlib.Core.List.{List, [], ◌∷◌}
use Prim.Native.Nat.{ℕ}
use lib.Dec.{T}
use Rattle.runs.specs.Tests.{both, same_list}
use Rattle.runs.specs.Verdict.{Verdict, Verdict-discrete}
use Rattle.runs.proofs.Reflect.{Reflects, r_both, r_T, r_list, r_decide}
use Rattle.members.specs.Members.{MemberCall}
use Rattle.member_calls.specs.Model.{member_return, members_left}
use Rattle.claims.specs.Members.{MemberCalls, none_made, next_made}
use Rattle.run_trials.specs.Written.{bytes_of}
use Rattle.run_trials.specs.Members.{MemberRow, RowCalled, AllCalled}
use Rattle.run_trials.proofs.Sequences.{same_answer, same_answer_lem}

-- what is computed of a list of calls
unfoldable pub answers_of : List ℕ → List ℕ → List MemberCall → List (ℕ ⊎ Verdict)
answers_of b ms [] = []
answers_of b ms (c ∷ cs) = member_return b ms c ∷ answers_of b (members_left b ms c) cs

unfoldable pub list_after : List ℕ → List ℕ → List MemberCall → List ℕ
list_after b ms [] = ms
list_after b ms (c ∷ cs) = list_after b (members_left b ms c) cs

computed : {b ms zs : List ℕ} {cs : List MemberCall} {rs : List (ℕ ⊎ Verdict)} → MemberCalls b ms cs rs zs
    → (rs ≡ answers_of b ms cs) × (zs ≡ list_after b ms cs)
unfolding answers_of list_after
computed none_made = (refl, refl)
computed (next_made x y) = let (e, f) = rw x.leaves at (computed y) in (rw (x.returns, e), f)

-- two lists of answers are the same
unfoldable pub same_verdict : Verdict → Verdict → Bool
same_verdict u v = decide (Verdict-discrete u v)

pub r_verdict : (u v : Verdict) → Reflects (same_verdict u v) (u ≡ v)
unfolding same_verdict
r_verdict u v = r_decide (Verdict-discrete u v)

unfoldable pub same_answers : List (ℕ ⊎ Verdict) → List (ℕ ⊎ Verdict) → Bool
same_answers [] [] = true
same_answers [] (c ∷ k) = false
same_answers (a ∷ l) [] = false
same_answers (a ∷ l) (c ∷ k) = both (same_answer same_verdict a c) (λ u. same_answers l k)

same_answers_lem : (l k : List (ℕ ⊎ Verdict)) → T (same_answers l k) → l ≡ k
unfolding same_answers
same_answers_lem [] [] t = refl
same_answers_lem [] (c ∷ k) t = absurd t
same_answers_lem (a ∷ l) [] t = absurd t
same_answers_lem (a ∷ l) (c ∷ k) t =
    let r : Reflects (both (same_answer same_verdict a c) (λ u. same_answers l k))
    (T (same_answer same_verdict a c) × T (same_answers l k)) = r_both _ _ (r_T _) (r_T _) in
    let (x, y) = r.to t in rw (same_answer_lem same_verdict r_verdict a c x, same_answers_lem l k y)

-- a row
module _ (w : MemberRow) where
  abbrev answered : Bool
  answered = same_answers (answers_of (bytes_of w.plan) w.members w.calls) w.answers

  abbrev kept : Bool
  kept = same_list (list_after (bytes_of w.plan) w.members w.calls) w.left

  unfoldable pub member_b : Bool
  member_b = both answered (λ u. kept)

  row_called : T member_b → RowCalled w
  unfolding member_b
  row_called t rs zs y =
      let r : Reflects (both answered (λ u. kept)) (T answered × T kept) = r_both _ _ (r_T _) (r_T _) in
      let (x, f) = r.to t in
      let (d, e) = computed y in
      (d ∙ same_answers_lem _ _ x, e ∙ (r_list _ _).to f)

unfoldable pub all_called_b : List MemberRow → Bool
all_called_b [] = true
all_called_b (w ∷ l) = both (member_b w) (λ u. all_called_b l)

pub all_called : (l : List MemberRow) → T (all_called_b l) → AllCalled l
unfolding all_called_b
all_called [] t = tt
all_called (w ∷ l) t =
    let r : Reflects (both (member_b w) (λ u. all_called_b l)) (T (member_b w) × T (all_called_b l))
    = r_both _ _ (r_T _) (r_T _) in
    let (x, y) = r.to t in (row_called w x, all_called l y)
