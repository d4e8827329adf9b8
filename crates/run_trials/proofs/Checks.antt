-- Whether a state is refused, as one test that computes. Assumes nothing.
use mathlib.Core.Path.{◌≡◌, refl, sym, ap, ◌∙◌}
use mathlib.Core.Logic.{◌≢◌, inl, inr, by_cases}
use mathlib.Core.Bool.{Bool, true, false, cond, true≢false}
use mathlib.Core.List.{List, [], ◌∷◌}
use Prim.Native.Nat.{ℕ, zero, suc}
use native.Mathlib.Decide.{ℕ_discrete}
use native.Mathlib.Omega.{arith}
use lib.Dec.{T, eqb}
use Rattle.base.proofs.First.{first_none, first_some, answer_some}
use Rattle.runs.specs.Tests.{both, negate, same_b}
use Rattle.runs.specs.Model.Monitor.{complete_b}
use Rattle.runs.proofs.Reflect.{Reflects, r_both, r_negate, r_T, r_eq, r_same}
use Rattle.run_state.specs.State.{status_in, malformed_under, room_refusal_under, state_refusal_under}
use Rattle.plan_blocked.specs.Blocked.{plan_under, refusal_under}
use Rattle.verdict.specs.Verdict.{answer_of}
use Rattle.summary.specs.Summary.{summary_refusal}
use Rattle.run_state.proofs.Left.{fresh_refused}
use Rattle.run_monitor.specs.Status.{Word, COMPLETE, UNFINISHED, word_for, status_answer}
use Rattle.run_monitor.proofs.Outcomes.{refused_16}
use Rattle.run_trials.specs.Written.{bytes_of}
use Rattle.run_trials.specs.Checked.{StateRow, AllRefuse, AllPass, CheckOf, AllChecked, Worded, AllWorded}
use Rattle.run_trials.specs.Checked.{Listing, RefusesAll, AllRefused}

-- 15 comes from the check of the room
no_room : (b xs s : List ℕ) → state_refusal_under b xs s ≡ 15 → room_refusal_under b xs s ≡ 15
unfolding state_refusal_under
no_room b xs s e =
    by_cases (ℕ_discrete (room_refusal_under b xs s) 0)
    (λ (z : room_refusal_under b xs s ≡ 0). absurd (only_16 (malformed_under b xs s)
    (first_none (room_refusal_under b xs s) _ z ∙ e)))
    (λ z. first_some (room_refusal_under b xs s) _ z ∙ e)
  where
    only_16 : (v : Bool) → ◌≡◌ {A = ℕ} (cond v 16 0) 15 → ⊥
    only_16 true q = omega (arith, q)
    only_16 false q = omega (arith, q)

refuses : (b xs s : List ℕ) (r : ℕ) → state_refusal_under b xs s ≡ r → r ≢ 0 → AllRefuse b xs s r
unfolding status_answer
refuses b xs s r e n =
    let k : state_refusal_under b xs s ≡ 0 → ⊥ = λ z. n (sym e ∙ z) in
    record {
      status = λ p t. t.returns ∙ sym (answer_some (state_refusal_under b xs s) _ k) ∙ ap inl e;
      call = λ v m z c. let w = refused_16 b xs s v k in (c.returns ∙ sym w.0 ∙ e, c.leaves ∙ sym w.1);
      room = λ q m z f. (
        f.returns ∙ no_room b xs s (e ∙ q),
        f.leaves ∙ sym (fresh_refused b xs s (λ y.
            omega (arith, no_room b xs s (e ∙ q)))),
      );
    }

passes : (b xs s : List ℕ) → state_refusal_under b xs s ≡ 0 → AllPass b xs s
unfolding status_answer
passes b xs s e = record {
  status = λ p t. (word_for (complete_b (plan_under b xs) (status_in b s) 0), t.returns ∙ rw e);
  call = λ v n z c. c.answered e;
}

check_of : (b xs s : List ℕ) (r : ℕ) → state_refusal_under b xs s ≡ r → CheckOf b xs s r
check_of b xs s zero e = passes b xs s e
check_of b xs s (suc r) e = refuses b xs s (suc r) e (λ q. omega arith)

unfoldable pub all_checked_b : List StateRow → Bool
all_checked_b [] = true
all_checked_b (c ∷ l) =
    both (eqb (state_refusal_under (bytes_of c.plan) c.blocked c.state) c.refusal) (λ u. all_checked_b l)

pub all_checked : (l : List StateRow) → T (all_checked_b l) → AllChecked l
unfolding all_checked_b
all_checked [] x = tt
all_checked (c ∷ l) x =
    let r : Reflects
    (both (eqb (state_refusal_under (bytes_of c.plan) c.blocked c.state) c.refusal) (λ u. all_checked_b l))
    ((state_refusal_under (bytes_of c.plan) c.blocked c.state ≡ c.refusal) × T (all_checked_b l)) =
    r_both _ _ (r_eq _ _) (r_T _) in
    let (a, y) = r.to x in
    (check_of (bytes_of c.plan) c.blocked c.state c.refusal a, all_checked l y)

-- what `status` says, as one test that computes
unfoldable pub complete_is : Word → Bool
complete_is COMPLETE = true
complete_is UNFINISHED = false

word_of : (w : Word) (x : Bool) → x ≡ complete_is w → word_for x ≡ w
unfolding complete_is
word_of COMPLETE true e = refl
word_of COMPLETE false e = absurd (true≢false (sym e))
word_of UNFINISHED true e = absurd (true≢false e)
word_of UNFINISHED false e = refl

unfoldable pub all_worded_b : List Worded → Bool
all_worded_b [] = true
all_worded_b (c ∷ l) = both (eqb (state_refusal_under (bytes_of c.plan) c.blocked c.state) 0)
    (λ u. both (same_b (complete_is c.word)
    (complete_b (plan_under (bytes_of c.plan) c.blocked) (status_in (bytes_of c.plan) c.state) 0))
    (λ u. all_worded_b l))

pub all_worded : (l : List Worded) → T (all_worded_b l) → AllWorded l
unfolding all_worded_b status_answer
all_worded [] x = tt
all_worded (c ∷ l) x =
    let b = bytes_of c.plan in
    let r : Reflects (both (eqb (state_refusal_under b c.blocked c.state) 0)
    (λ u. both (same_b (complete_is c.word) (complete_b (plan_under b c.blocked) (status_in b c.state) 0))
    (λ u. all_worded_b l)))
    ((state_refusal_under b c.blocked c.state ≡ 0)
    × ((complete_is c.word ≡ complete_b (plan_under b c.blocked) (status_in b c.state) 0)
    × T (all_worded_b l))) = r_both _ _ (r_eq _ _) (r_both _ _ (r_same _ _) (r_T _)) in
    let (a, (w, y)) = r.to x in
    (λ p t. t.returns ∙ rw a (ap inr (word_of c.word _ (sym w))), all_worded l y)

-- ---- a list that is refused
module _ (b xs : List ℕ) (r : ℕ) (e : refusal_under b xs ≡ r) (n : r ≢ 0) where
  met : refusal_under b xs ≡ 0 → ⊥
  met z = n (sym e ∙ z)

  room_is : (s : List ℕ) → room_refusal_under b xs s ≡ r
  unfolding room_refusal_under
  room_is s = sym (first_some (refusal_under b xs) _ met) ∙ e

  state_is : (s : List ℕ) → state_refusal_under b xs s ≡ r
  unfolding state_refusal_under
  state_is s = sym (first_some (room_refusal_under b xs s) _ (λ z. n (sym (room_is s) ∙ z))) ∙ room_is s

  summary_is : (m : ℕ) (out : List ℕ) → summary_refusal b xs m out ≡ r
  unfolding summary_refusal
  summary_is m out = sym (first_some (refusal_under b xs) _ met) ∙ e

  refuses_all : RefusesAll b xs r
  unfolding answer_of
  refuses_all = record {
    assess = λ a x. x.returns ∙ sym (answer_some (refusal_under b xs) _ met) ∙ ap inl e;
    summary = λ m out out' k x. (
      x.returns ∙ summary_is m out,
      x.unchanged (λ z. n (sym (x.returns ∙ summary_is m out) ∙ z)),
    );
    fresh = λ s z k x. (
      x.returns ∙ room_is s,
      x.leaves ∙ sym (fresh_refused b xs s (λ y. n (sym (room_is s) ∙ y))),
    );
    status = λ s. (refuses b xs s r (state_is s) n).status;
    call = λ s. (refuses b xs s r (state_is s) n).call;
  }

unfoldable pub all_refused_b : List Listing → Bool
all_refused_b [] = true
all_refused_b (c ∷ l) =
    both (both (negate (eqb c.refusal 0)) (λ u. eqb (refusal_under (bytes_of c.plan) c.blocked) c.refusal))
    (λ u. all_refused_b l)

pub all_refused : (l : List Listing) → T (all_refused_b l) → AllRefused l
unfolding all_refused_b
all_refused [] x = tt
all_refused (c ∷ l) x =
    let r : Reflects (both
    (both (negate (eqb c.refusal 0)) (λ u. eqb (refusal_under (bytes_of c.plan) c.blocked) c.refusal))
    (λ u. all_refused_b l)) (((c.refusal ≢ 0) × (refusal_under (bytes_of c.plan) c.blocked ≡ c.refusal))
    × T (all_refused_b l)) = r_both _ _ (r_both _ _ (r_negate _ (r_eq _ _)) (r_eq _ _)) (r_T _) in
    let ((n, e), y) = r.to x in
    (refuses_all (bytes_of c.plan) c.blocked c.refusal e n, all_refused l y)
