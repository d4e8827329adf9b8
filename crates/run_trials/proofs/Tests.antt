-- A trial as one test that computes. Assumes nothing.
use mathlib.Core.Path.{◌≡◌, refl, ap, ◌∙◌}
use mathlib.Core.Logic.{⊎_elim}
use mathlib.Core.Bool.{Bool, true, decide}
use mathlib.Core.List.{List, [], ◌∷◌}
use Prim.Native.Nat.{ℕ, zero, suc, ◌+◌, ◌*◌, ◌<◌}
use native.Mathlib.Omega.{arith}
use lib.ListN.{get_or}
use lib.Dec.{T, eqb, ltb}
use lib.Pow.{are_bytes}
use borrow.Author.Tests.{ltb-true}
use Rattle.base.specs.Answers.{overlay}
use Rattle.plan_format.specs.Format.{node_count, flag_count}
use Rattle.plan_blocked.specs.Blocked.{plan_under, refusal_under}
use Rattle.plan_blocked.proofs.Refused.{plan_accepted, blocks, under_well_formed}
use Rattle.runs.specs.Blocked.{MarkedUnder}
use Rattle.runs.specs.Model.Blocked.{marked_under_b}
use Rattle.runs.proofs.Blocked.Branches.{blocked_marks}
use Rattle.base.proofs.Booleans.{and_both}
use Rattle.plan_check.specs.Meaning.{plan_of, start_of}
use Rattle.plan_check.proofs.Meaning.{means_well_formed}
use Rattle.runs.specs.Calls.{World, fresh}
use Rattle.runs.specs.Summary.{Mark}
use Rattle.runs.specs.Tests.{both, all_below, same_list}
use Rattle.runs.specs.Searches.{listed}
use Rattle.runs.specs.Verdict.{Verdict-discrete}
use Rattle.runs.specs.Model.Monitor.{returns, states}
use Rattle.runs.specs.Model.Verdicts.{verdict}
use Rattle.runs.proofs.Reflect.{T_true, Reflects, r_both, r_T, r_eq, r_list, r_lt, r_decide, r_all}
use Rattle.runs.proofs.Calls.First.{worked_only}
use Rattle.run_calls.specs.Shown.{shown_byte}
use Rattle.verdict.specs.Verdict.{answer_of}
use Rattle.base.specs.Bytes.{Bytes}
use Rattle.run_calls.proofs.Followed.{list_follows}
use Rattle.run_trials.specs.Written.{bytes_of}
use Rattle.run_trials.specs.Trial.{Shown, shown, ShownBy, AllShown, Trial, HoldsOf, AllHold}

-- ---- bytes
bytes_of_lem : (b : List ℕ) → are_bytes b ≡ true → Bytes b
bytes_of_lem [] y i = omega arith
bytes_of_lem (x ∷ b) y zero = ltb-true x 256 (and_both (ltb x 256) (are_bytes b) y).0
bytes_of_lem (x ∷ b) y (suc i) = bytes_of_lem b (and_both (ltb x 256) (are_bytes b) y).1 i

-- lent memory by what is written to its first places
overlay_same : (f g : ℕ → ℕ) (n : ℕ) (xs : List ℕ) → ((k : ℕ) → k < n → f k ≡ g k) → overlay f n xs ≡ overlay g n xs
unfolding overlay
overlay_same f g zero xs h = refl
overlay_same f g (suc n) xs h = rw (overlay_same f g n xs (λ k l. h k (omega arith)), h n (omega arith))

-- ---- the test
unfoldable pub shows_b : List ℕ → List ℕ → List Shown → Bool
shows_b b xs [] = true
shows_b b xs (shown n f v m ∷ l) = both (ltb f (flag_count b))
    (λ u. both (marked_under_b (plan_of b) (listed xs) n f v m) (λ u. shows_b b xs l))

unfoldable pub left_b : List ℕ → Trial → Bool
left_b b t = all_below (8 + 3 * node_count b)
    (λ k. eqb (shown_byte (node_count b) (states (plan_of b) (plan_under b t.blocked) (fresh (start_of b)) t.calls) k)
    (get_or t.left k 0))

unfoldable pub holds_b : List ℕ → Trial → Bool
holds_b b t = both (both (are_bytes b) (λ u. eqb (refusal_under b t.blocked) 0))
    (λ u. both (decide (Verdict-discrete (verdict (plan_under b t.blocked) (start_of b)) t.verdict))
    (λ u. both (shows_b b t.blocked t.marks)
    (λ u. both (same_list (returns (plan_of b) (plan_under b t.blocked) (fresh (start_of b)) t.calls) t.returned)
    (λ u. left_b b t))))

shown_by : (b xs : List ℕ) (n f : ℕ) (v : Bool) (m : Mark) → f < flag_count b
    → MarkedUnder (plan_of b) (listed xs) n f v m → ShownBy b xs n f v m
shown_by b xs n f v m l x = record
    { marked = x; told = λ out out' s. ⊎_elim (λ y. y.0) (λ y. absurd (y.1 x)) (s.marks refl f l v m) }

shows_of : (b xs : List ℕ) → refusal_under b xs ≡ 0 → (l : List Shown) → T (shows_b b xs l) → AllShown b xs l
unfolding shows_b
shows_of b xs acc [] t = tt
shows_of b xs acc (shown n f v m ∷ l) t =
    let r : Reflects (both (ltb f (flag_count b))
    (λ u. both (marked_under_b (plan_of b) (listed xs) n f v m) (λ u. shows_b b xs l)))
    ((f < flag_count b) × (T (marked_under_b (plan_of b) (listed xs) n f v m) × T (shows_b b xs l)))
    = r_both _ _ (r_lt _ _) (r_both _ _ (r_T _) (r_T _)) in
    let (j, (x, y)) = r.to t in (
      shown_by b xs n f v m j ((blocked_marks (plan_of b) (means_well_formed b (plan_accepted b xs acc)) (listed xs)
          (blocks b xs acc) n f v m).to x),
      shows_of b xs acc l y,
    )

module _ (b : List ℕ) (t : Trial) (x : T (holds_b b t)) where
  abbrev p_returns : List ℕ
  p_returns = returns (plan_of b) (plan_under b t.blocked) (fresh (start_of b)) t.calls

  abbrev p_after : World
  p_after = states (plan_of b) (plan_under b t.blocked) (fresh (start_of b)) t.calls

  record Passed : Type 0 where
    small : T (are_bytes b)
    accepted : refusal_under b t.blocked ≡ 0
    judged : verdict (plan_under b t.blocked) (start_of b) ≡ t.verdict
    shows : T (shows_b b t.blocked t.marks)
    returned : p_returns ≡ t.returned
    left : (k : ℕ) → k < 8 + 3 * node_count b → shown_byte (node_count b) p_after k ≡ get_or t.left k 0

  passed : Passed
  unfolding holds_b left_b
  passed =
      let r : Reflects (holds_b b t) ((T (are_bytes b) × (refusal_under b t.blocked ≡ 0))
      × ((verdict (plan_under b t.blocked) (start_of b) ≡ t.verdict)
      × (T (shows_b b t.blocked t.marks) × ((p_returns ≡ t.returned)
      × ((k : ℕ) → k < 8 + 3 * node_count b → shown_byte (node_count b) p_after k ≡ get_or t.left k 0)))))
      = r_both _ _ (r_both _ _ (r_T _) (r_eq _ _))
      (r_both _ _ (r_decide _) (r_both _ _ (r_T _) (r_both _ _ (r_list _ _) (r_all _ _ _ (λ k. r_eq _ _))))) in
      let ((a, c), (d, (e, (f, g)))) = r.to x in
      record { small = a; accepted = c; judged = d; shows = e; returned = f; left = g }

  pub holds_of : HoldsOf b t
  unfolding answer_of
  holds_of =
      let w = passed in
      record {
        accepted = w.accepted;
        judged = λ r a. a.returns ∙ rw (w.accepted, w.judged);
        shows = shows_of b t.blocked w.accepted t.marks w.shows;
        called = λ s rs z l.
            let g = list_follows b t.blocked (bytes_of_lem b (T_true (are_bytes b) w.small)) s t.calls rs z l in
            let (e, q) = worked_only (plan_of b) (plan_under b t.blocked)
            (under_well_formed b t.blocked w.accepted) g.worked in
            let m = node_count b in (
              e ∙ w.returned,
              g.shown.bytes ∙ ap (λ (a : World). overlay (shown_byte m a) (8 + 3 * m) s) q
                  ∙ overlay_same (shown_byte m p_after) (λ k. get_or t.left k 0) (8 + 3 * m) s w.left,
            );
      }

unfoldable pub all_hold_b : List Trial → Bool
all_hold_b [] = true
all_hold_b (t ∷ l) = both (holds_b (bytes_of t.plan) t) (λ u. all_hold_b l)

-- trials that pass the test hold
pub all_hold : (l : List Trial) → T (all_hold_b l) → AllHold l
unfolding all_hold_b
all_hold [] x = tt
all_hold (t ∷ l) x =
    let r : Reflects (both (holds_b (bytes_of t.plan) t) (λ u. all_hold_b l))
    (T (holds_b (bytes_of t.plan) t) × T (all_hold_b l)) = r_both _ _ (r_T _) (r_T _) in
    let (a, c) = r.to x in
    (holds_of (bytes_of t.plan) t a, all_hold l c)
