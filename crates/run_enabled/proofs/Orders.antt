-- Refusal 20 by the orders of the bytes. Assumes nothing.
use mathlib.Core.Path.{◌≡◌, refl, sym, ap, ◌∙◌}
use mathlib.Core.Bool.{Bool, true, false, not, true≢false, false≢true}
use mathlib.Core.List.{List}
use Prim.Native.Nat.{ℕ, ◌<◌}
use native.Mathlib.Omega.{arith}
use lib.ListN.{get_or}
use lib.Dec.{T, eqb}
use borrow.Author.Tests.{not-true}
use Rattle.plan_format.specs.Format.{node_count, order_count, earlier_of, later_of}
use Rattle.plan_rules.specs.Rules.{refusal, bad_order, cause13}
use Rattle.runs.specs.Searches.{any_below}
use Rattle.base.proofs.Booleans.{and_both, and_of}
use Rattle.runs.proofs.Searches.{none_at, found_at, some_yes}
use Rattle.plan_check.specs.Meaning.{plan_of}
use Rattle.plan_check.proofs.Accepted.{clean}
use Rattle.plan_check.proofs.Meaning.{siblings, child_is, order_is_lem, has_order_lem}
use Rattle.plan_check.proofs.Nodes.{is_node}
use Rattle.runs.specs.Execution.{Complete}
use Rattle.runs.specs.Calls.{OrderOpen}
use Rattle.runs.specs.Model.Monitor.{complete_b, order_open_b}
use Rattle.runs.specs.Model.Trees.{under_b}
use Rattle.runs.proofs.Reflect.{Reflects, true_T, T_true, same_test}
use Rattle.runs.proofs.Plan.Reflect.{r_under}
use Rattle.runs.proofs.Calls.Reflect.{r_complete, r_order_open}
use Rattle.run_state.specs.State.{status_in}
use Rattle.run_state.specs.Inner.{state_refusal}
use Rattle.run_state.proofs.Passed.{has_room, well_formed}
use Rattle.base.specs.Count.{num}
use Rattle.run_enabled.specs.Enabling.{open_at}

-- an order's nodes are nodes
pub order_nodes : (b : List ℕ) → refusal b ≡ 0 → (j : ℕ) → j < order_count b
    → (earlier_of b j < node_count b) × (later_of b j < node_count b)
unfolding cause13 bad_order
order_nodes b e j l =
    let c = clean b e in
    let w = siblings b c (earlier_of b j) (later_of b j) (none_at (order_count b) (bad_order b) c.orders j l) in
    ((child_is b _ (earlier_of b j) w.2).1, (child_is b _ (later_of b j) w.3).1)

refuted : (x : Bool) → (T x → ⊥) → not x ≡ true
refuted true h = absurd (h tt)
refuted false h = refl

one_num : (x : Bool) → eqb (num x) 1 ≡ true → x ≡ true
one_num true e = refl
one_num false e = absurd (false≢true e)

module _ (b s : List ℕ) (ok : state_refusal b s ≡ 0) (t : ℕ) (marks : List ℕ)
    (right : (a : ℕ) → a < 128 → get_or marks a 0 ≡ num (under_b (plan_of b) a t)) where
  accepted : refusal b ≡ 0
  accepted = (has_room b s ok).accepted

  completes : (n : ℕ) → n < node_count b
      → Reflects (complete_b (plan_of b) (status_in b s) n) (Complete (plan_of b) (status_in b s) n)
  completes n l = r_complete (plan_of b) (well_formed b s ok) (status_in b s) n (is_node b n l)

  small : (n : ℕ) → n < node_count b → n < 128
  small n l = omega (arith, (has_room b s ok).plan.fits.limits.nodes)

  open_to : T (any_below (order_count b) (open_at b s marks)) → OrderOpen (plan_of b) (status_in b s) t
  unfolding open_at plan_of
  open_to y =
      let w = found_at (order_count b) (open_at b s marks) (T_true _ y) in
      let j = w.0 in
      let x = and_both (eqb (get_or marks (later_of b j) 0) 1)
      (not (complete_b (plan_of b) (status_in b s) (earlier_of b j)))
      w.2 in
      let n = order_nodes b accepted j w.1 in
      let u = one_num (under_b (plan_of b) (later_of b j) t)
      (ap (λ (k : ℕ). eqb k 1) (sym (right (later_of b j) (small (later_of b j) n.1))) ∙ x.0) in
      record {
        earlier = earlier_of b j;
        later = later_of b j;
        ordered = has_order_lem b (earlier_of b j) (later_of b j)
            (record { at = j; below = w.1; earlier = refl; later = refl });
        above = (r_under (plan_of b) (well_formed b s ok) (later_of b j) t).to (true_T _ u);
        incomplete = λ z. true≢false (sym (T_true _ ((completes (earlier_of b j) n.0).from z))
            ∙ not-true (complete_b (plan_of b) (status_in b s) (earlier_of b j)) x.1);
      }

  open_from : OrderOpen (plan_of b) (status_in b s) t → T (any_below (order_count b) (open_at b s marks))
  unfolding open_at plan_of
  open_from x =
      let w = order_is_lem b x.earlier x.later x.ordered in
      let j = w.at in
      let n = order_nodes b accepted j w.below in
      let u = T_true (under_b (plan_of b) (later_of b j) t)
      ((r_under (plan_of b) (well_formed b s ok) (later_of b j) t).from (rw w.later x.above)) in
      true_T _
      (some_yes (order_count b) (open_at b s marks) j w.below
      (and_of (eqb (get_or marks (later_of b j) 0) 1) (not (complete_b (plan_of b) (status_in b s) (earlier_of b j)))
      (ap (λ (k : ℕ). eqb k 1) (right (later_of b j) (small (later_of b j) n.1) ∙ ap num u))
      (refuted (complete_b (plan_of b) (status_in b s) (earlier_of b j))
      (λ z. x.incomplete (rw w.earlier at ((completes (earlier_of b j) n.0).to z))))))

  opens : Reflects (order_open_b (plan_of b) (status_in b s) t) (OrderOpen (plan_of b) (status_in b s) t)
  opens = r_order_open (plan_of b) (well_formed b s ok) (status_in b s) t

  pub open_is : any_below (order_count b) (open_at b s marks) ≡ order_open_b (plan_of b) (status_in b s) t
  open_is = same_test _ _ (record { to = open_to; from = open_from }) opens
