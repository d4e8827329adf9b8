-- Nodes of a kind and their status, by the bytes, and what an event of such a node asserts and breaks. Assumes nothing.
use mathlib.Core.Path.{◌≡◌, refl, sym, ap, ◌∙◌}
use mathlib.Core.Bool.{Bool, true, false}
use mathlib.Core.List.{List}
use Prim.Native.Nat.{ℕ}
use lib.Dec.{eqb}
use lib.ListN.{replicate}
use Rattle.run_flags.specs.Inner.{all_byte}
use Rattle.plan_format.specs.Format.{kind_of, is_kind, cond_count}
use mathlib.Core.Option.{Option, some, none}
use Rattle.plan_check.specs.Meaning.{plan_of, kind_at, sign_in}
use Rattle.plan_check.proofs.Meaning.{kind_is, kind_of_lem, kind_number_lem, kind_limit, means}
use Rattle.plan_check.proofs.Nodes.{is_node, node_is, plan_kind}
use Rattle.runs.specs.Plan.{Kind, task, all_of, any_of, optional, post, Node, place_number}
use Rattle.runs.specs.Numbers.{kind_number, status_byte}
use Rattle.runs.specs.Execution.{Status, Event, start, finish, skip, node_of, asserts}
use Rattle.runs.specs.Model.Monitor.{task_b, optional_b, status_b, inc_broken_b}
use Rattle.runs.specs.Searches.{any_below}
use Rattle.runs.proofs.Reflect.{Reflects, r_eq, r_map, clash, true_T, T_true, same_test}
use Rattle.runs.proofs.Calls.Reflect.{r_task, r_optional, r_status}
use Rattle.run_starts.specs.Starts.{node_byte}
use Rattle.run_state.specs.State.{status_in}
use Rattle.run_state.specs.Inner.{state_refusal}
use Rattle.run_state.proofs.Passed.{has_room, byte_is}
use Rattle.run_state.specs.Made.{made}
use Rattle.node_sets.specs.One.{only}
use Rattle.run_conditions.specs.Conditions.{broken_at}
use Rattle.run_conditions.proofs.Refusals.{broken_is}
use Rattle.run_refusals.specs.Inner.{event_place}
use Rattle.run_refusals.proofs.Moves.{OfTask, event_kind}

number_kind : (κ : Kind) → kind_at (kind_number κ) ≡ κ
unfolding kind_at
number_kind task = refl
number_kind all_of = refl
number_kind any_of = refl
number_kind optional = refl

module _ (b s : List ℕ) (ok : state_refusal b s ≡ 0) where
  -- a node of a kind, by the bytes
  pub r_kind : (t : ℕ) (κ : Kind) → Reflects (is_kind b t (kind_number κ))
      (Node (plan_of b) t × ((plan_of b).tree.kind t ≡ κ))
  r_kind t κ = record {
    to = λ y. let w = kind_is b t (kind_number κ) (T_true (is_kind b t (kind_number κ)) y) in
        (is_node b t w.0, plan_kind b t ∙ ap kind_at w.1 ∙ number_kind κ);
    from = λ x. let l = node_is b t x.0 in
        true_T (is_kind b t (kind_number κ)) (kind_of_lem b t (kind_number κ) l
        (sym (kind_number_lem (kind_of b t) (kind_limit b (has_room b s ok).plan t l))
        ∙ ap kind_number (sym (plan_kind b t) ∙ x.1)));
  }

  pub task_is : (t : ℕ) → is_kind b t 0 ≡ task_b (plan_of b) t
  task_is t =
      same_test _ _ (r_map (λ x. record { node = x.0; is_task = x.1 }, λ x. (x.node, x.is_task)) (r_kind t task))
      (r_task (plan_of b) t)

  pub optional_is : (g : ℕ) → is_kind b g 3 ≡ optional_b (plan_of b) g
  optional_is g = same_test _ _
      (r_map (λ x. record { node = x.0; is_optional = x.1 }, λ x. (x.node, x.is_optional)) (r_kind g optional))
      (r_optional (plan_of b) g)

  -- the status of a task, by its byte
  pub status_is : (t : ℕ) → is_kind b t 0 ≡ true → (q : Status)
      → eqb (node_byte s t) (status_byte q) ≡ status_b (status_in b s t) q
  status_is t y q = same_test _ _
      (r_map (byte_is b s ok t (kind_is b t 0 y).0 q) (r_eq (node_byte s t) (status_byte q)))
      (r_status (status_in b s t) q)

  -- what an event asserts
  pub event_does : (e : Event) → is_kind b (node_of e) (kind_number (event_kind e)) ≡ true → (f : ℕ)
      → asserts (plan_of b) e f ≡ sign_in b (event_place e) (node_of e) f
  unfolding plan_of
  event_does (start t) y f = refl
  event_does (finish t) y f = refl
  event_does (skip g) y f = sym (at (sign_in b post g f) refl)
    where
      at : (o : Option Bool) → sign_in b post g f ≡ o → o ≡ none
      at none q = refl
      at (some v) q = let x = ((means b (has_room b s ok).accepted).accepted.on_task post g f v q).1 in
          let z = ((r_kind g optional).to (true_T _ y)).1 in clash cc

  task_does : (e : Event) → OfTask e → (f : ℕ) → asserts (plan_of b) e f ≡ sign_in b (event_place e) (node_of e) f
  unfolding plan_of
  task_does (start t) x f = refl
  task_does (finish t) x f = refl
  task_does (skip g) x f = absurd x

  -- the test of 22, by what the function has at hand
  pub broken_by : (t : ℕ) (e : Event) → node_of e ≡ t → OfTask e → (q : ℕ) → q ≡ place_number (event_place e)
      → (M : ℕ → Bool) → M ≡ only t → (r : Bool)
      → r ≡ any_below (cond_count b) (broken_at b s (made b q M (replicate 8 (all_byte false)))
      (made b q M (replicate 8 (all_byte true))) M) → r ≡ inc_broken_b (plan_of b) (status_in b s) e
  broken_by t e of x q k M m r h =
      let g : (f : ℕ) → asserts (plan_of b) e f ≡ sign_in b (event_place e) t f = λ f. task_does e x f
      ∙ ap (λ (n : ℕ). sign_in b (event_place e) n f) of in
      rw (m, k) at h ∙ broken_is b s ok t (event_place e) e of g
