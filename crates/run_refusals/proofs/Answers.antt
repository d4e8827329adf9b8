-- The refusal of an event under a list of blocked nodes: by the first test that applies; and that the node of an
-- accepted event stands, is of the kind that it moves and has the byte that it asks for. Assumes nothing.
use mathlib.Core.Path.{◌≡◌, refl, sym, ap, ◌∙◌}
use mathlib.Core.Logic.{by_cases, ⊎_elim}
use mathlib.Core.Bool.{Bool, true, false, cond, not, true≢false}
use mathlib.Core.List.{List}
use Prim.Native.Nat.{ℕ, ◌<◌}
use native.Mathlib.Decide.{ℕ_discrete}
use native.Mathlib.Omega.{arith}
use lib.Dec.{eqb}
use borrow.Author.Tests.{eq-eqb, ne_eqb}
use Rattle.plan_format.specs.Format.{node_count, is_kind}
use Rattle.base.proofs.Booleans.{either}
use Rattle.plan_check.specs.Meaning.{plan_of}
use Rattle.plan_check.proofs.Meaning.{kind_is}
use Rattle.plan_check.proofs.Nodes.{is_node}
use Rattle.runs.specs.Plan.{optional, itself}
use Rattle.runs.specs.Numbers.{kind_number, status_byte}
use Rattle.runs.specs.Execution.{waiting, running, Status-discrete, Event, start, finish, skip, node_of}
use Rattle.runs.specs.Calls.{Call, one, checks, asks}
use Rattle.runs.specs.Model.Monitor.{returned, first_of, refusal_number, applies_b, task_b, optional_b, status_b}
use Rattle.runs.specs.Model.Monitor.{begun_b}
use Rattle.runs.specs.Model.Monitor.{wrong_status_b, branch_begun_b, order_open_b, pre_unmet_b, inc_broken_b}
use Rattle.plan_blocked.specs.Inner.{Standing}
use Rattle.plan_blocked.proofs.Refused.{blocks}
use Rattle.runs.specs.Tests.{negate}
use Rattle.runs.specs.Searches.{either as or, listed}
use Rattle.runs.specs.Model.Blocked.{stands}
use Rattle.runs.proofs.Blocked.Monitor.{tested_b, tested_is}
use Rattle.runs.proofs.Reflect.{r_map, true_T, T_true, same_test}
use Rattle.runs.proofs.Calls.Reflect.{r_begun, r_wrong_status}
use Rattle.runs.proofs.Calls.Skips.{skip_begun}
use Rattle.base.specs.Answers.{first}
use Rattle.base.proofs.First.{first_none, first_some, both_none}
use Rattle.run_starts.specs.Starts.{node_byte}
use Rattle.run_state.specs.State.{status_in, flag_shown, world_of, state_refusal_under}
use Rattle.run_state.specs.Inner.{state_refusal}
use Rattle.run_state.proofs.Passed.{well_formed, byte_is, shown_moves, passed, list_passed, absent_byte, absent_waits}
use Rattle.node_sets.specs.Sets.{marked}
use Rattle.run_refusals.specs.Events.{call_refusal}
use Rattle.run_refusals.specs.Inner.{event_refusal}
use Rattle.run_refusals.specs.Parts.{tree_refusal, begin_refusal}
use Rattle.run_refusals.proofs.Moves.{OfTask, event_kind}
use Rattle.run_refusals.proofs.OfKind.{r_kind, task_is, optional_is, status_is}
use Rattle.run_refusals.proofs.Chains.{start_chain, finish_chain, skip_chain, tree_stands}

module _ (b xs s : List ℕ) (under : state_refusal_under b xs s ≡ 0) where
  abbrev ok : state_refusal b s ≡ 0
  ok = passed b xs s under

  stood : ℕ → Bool
  stood t = stands (plan_of b) (listed xs) t

  -- a call's refusal, by the table of the whole plan and the nodes that stand
  pub by_table : (c : Call) → call_refusal b xs s c
      ≡ refusal_number (first_of (tested_b (plan_of b) (well_formed b s ok) (listed xs)
      (blocks b xs (list_passed b xs s under)) (world_of b s) c) (checks c))
  unfolding returned world_of
  by_table c =
      ap refusal_number (tested_is (plan_of b) (well_formed b s ok) (listed xs) (blocks b xs (list_passed b xs s under))
      (world_of b s) (absent_waits b xs s under) c)

  -- the end of the chain: 22
  abbrev broken : Event → ℕ
  broken e = cond (inc_broken_b (plan_of b) (status_in b s) e) 22 0

  chain_of : (e : Event) → OfTask e → event_refusal b xs s e
      ≡ cond (not (task_b (plan_of b) (node_of e))) 17
      (cond (not (status_b (status_in b s (node_of e)) (asks e))) 18
      (first (begin_refusal b s e (stood (node_of e))) (broken e)))
  unfolding first_of tested_b applies_b world_of negate tree_refusal begin_refusal stood
  chain_of (start t) x = by_table (one (start t)) ∙ start_chain (not (task_b (plan_of b) t))
      (not (status_b (status_in b s t) waiting))
      (or (not (stood t)) (λ u. branch_begun_b (plan_of b) (status_in b s) t))
      (order_open_b (plan_of b) (status_in b s) t)
      (pre_unmet_b (plan_of b) (flag_shown s) (start t)) (inc_broken_b (plan_of b) (status_in b s) (start t))
  chain_of (finish t) x =
      by_table (one (finish t)) ∙ finish_chain (not (task_b (plan_of b) t)) (not (status_b (status_in b s t) running))
      (inc_broken_b (plan_of b) (status_in b s) (finish t))
  chain_of (skip g) x = absurd x

  module _ (t : ℕ) (e : Event) (of : node_of e ≡ t) (tasks : OfTask e) where
    abbrev answer : ℕ
    answer = event_refusal b xs s e

    chain : answer ≡ cond (not (is_kind b t 0)) 17
        (cond (not (status_b (status_in b s t) (asks e))) 18 (first (begin_refusal b s e (stood t)) (broken e)))
    chain = chain_of e tasks ∙ rw (of, task_is b s ok t)

    pub answer_17 : is_kind b t 0 ≡ false → 17 ≡ answer
    answer_17 y = sym (chain ∙ rw y)

    module _ (y : is_kind b t 0 ≡ true) where
      chain_18 : answer ≡ cond (not (eqb (node_byte s t) (status_byte (asks e)))) 18
          (first (begin_refusal b s e (stood t)) (broken e))
      chain_18 = chain ∙ rw (y, status_is b s ok t y (asks e))

      pub answer_18 : (node_byte s t ≡ status_byte (asks e) → ⊥) → 18 ≡ answer
      answer_18 n = sym (chain_18 ∙ rw (ne_eqb (node_byte s t) (status_byte (asks e)) n))

      module _ (h : node_byte s t ≡ status_byte (asks e)) where
        rest : first (begin_refusal b s e (stood t)) (broken e) ≡ answer
        rest = sym (chain_18 ∙ rw (eq-eqb (node_byte s t) (status_byte (asks e)) h))

        -- by a table that marks the nodes that stand
        module _ {table : List ℕ} (tells : Standing b (listed xs) table) where
          same : begin_refusal b s e (marked table t) ≡ begin_refusal b s e (stood t)
          unfolding stood
          same = ap (begin_refusal b s e) (tells.is t (kind_is b t 0 y).0)

          pub answer_begin : (r : ℕ) → r ≡ begin_refusal b s e (marked table t) → (r ≡ 0 → ⊥) → r ≡ answer
          answer_begin r k n = let q = k ∙ same in
              q ∙ first_some (begin_refusal b s e (stood t)) (broken e) (λ z. n (q ∙ z)) ∙ rest

          pub answer_broken : begin_refusal b s e (marked table t) ≡ 0 → (z : Bool)
              → inc_broken_b (plan_of b) (status_in b s) e ≡ z → cond z 22 0 ≡ answer
          answer_broken q z d = ap (λ (x : Bool). cond x 22 0) (sym d)
              ∙ first_none (begin_refusal b s e (stood t)) (broken e) (sym same ∙ q) ∙ rest

    -- an accepted one is of a task
    pub answer_task : answer ≡ 0 → is_kind b t 0 ≡ true
    answer_task z =
        ⊎_elim (λ (y : is_kind b t 0 ≡ true). y)
        (λ (y : is_kind b t 0 ≡ false). absurd (omega (arith, answer_17 y, z)))
        (either (is_kind b t 0))

    -- whose byte is the one that it asks for
    pub answer_asked : answer ≡ 0 → node_byte s t ≡ status_byte (asks e)
    answer_asked z =
        by_cases (ℕ_discrete (node_byte s t) (status_byte (asks e))) (λ y. y)
        (λ n. absurd (omega (arith, answer_18 (answer_task z) n, z)))

  -- ---- a skip
  module _ (g : ℕ) where
    skips : event_refusal b xs s (skip g)
        ≡ cond (not (is_kind b g 3)) 27
        (cond (wrong_status_b (plan_of b) (status_in b s) (skip g)) 18 (tree_refusal b s g (stood g)))
    unfolding first_of tested_b applies_b world_of negate tree_refusal stood
    skips = by_table (one (skip g))
        ∙ skip_chain (not (optional_b (plan_of b) g)) (wrong_status_b (plan_of b) (status_in b s) (skip g))
        (or (not (stood g)) (λ u. branch_begun_b (plan_of b) (status_in b s) g))
        (order_open_b (plan_of b) (status_in b s) g)
        ∙ rw (optional_is b s ok g)

    pub skip_27 : is_kind b g 3 ≡ false → 27 ≡ event_refusal b xs s (skip g)
    skip_27 y = sym (skips ∙ rw y)

    -- 18: the group is begun
    wrong_is : is_kind b g 3 ≡ true → wrong_status_b (plan_of b) (status_in b s) (skip g) ≡ begun_b (plan_of b)
        (status_in b s) g
    wrong_is y = let x = (r_kind b s ok g optional).to (true_T _ y) in
        same_test _ _ (r_map (skip_begun (plan_of b) x.1)
        (r_wrong_status (plan_of b) (well_formed b s ok) (status_in b s) (skip g)))
        (r_begun (plan_of b) (well_formed b s ok) (status_in b s) g x.0)

    module _ (y : is_kind b g 3 ≡ true) where
      pub skip_18 : begun_b (plan_of b) (status_in b s) g ≡ true → 18 ≡ event_refusal b xs s (skip g)
      skip_18 z = sym (skips ∙ rw (y, wrong_is y ∙ z))

      pub skip_tree : begun_b (plan_of b) (status_in b s) g ≡ false → {table : List ℕ} → Standing b (listed xs) table
          → (r : ℕ) → r ≡ tree_refusal b s g (marked table g) → r ≡ event_refusal b xs s (skip g)
      unfolding stood
      skip_tree z tells r q = q ∙ ap (tree_refusal b s g) (tells.is g (kind_is b g 3 y).0)
          ∙ sym (skips ∙ rw (y, wrong_is y ∙ z))

    pub skip_optional : event_refusal b xs s (skip g) ≡ 0 → is_kind b g 3 ≡ true
    skip_optional z =
        ⊎_elim (λ (y : is_kind b g 3 ≡ true). y)
        (λ (y : is_kind b g 3 ≡ false). absurd (omega (arith, skip_27 y, z)))
        (either (is_kind b g 3))

    pub skip_waits : event_refusal b xs s (skip g) ≡ 0 → node_byte s g ≡ 0
    skip_waits z =
        let y = skip_optional z in
        let l = (kind_is b g 3 y).0 in
        ⊎_elim
        (λ (x : begun_b (plan_of b) (status_in b s) g ≡ true). absurd (omega (arith, skip_18 y x, z)))
        (λ (x : begun_b (plan_of b) (status_in b s) g ≡ false).
        (byte_is b s ok g l waiting).1 (waits_unbegun x (Status-discrete (status_in b s g) waiting)))
        (either (begun_b (plan_of b) (status_in b s) g))
      where
        waits_unbegun : begun_b (plan_of b) (status_in b s) g ≡ false → Dec (status_in b s g ≡ waiting)
            → status_in b s g ≡ waiting
        waits_unbegun x (yes q) = q
        waits_unbegun x (no q) = absurd (true≢false (sym (T_true _
            ((r_begun (plan_of b) (well_formed b s ok) (status_in b s) g
            (is_node b g (kind_is b g 3 (skip_optional z)).0)).from
            (record { who = g; moves = shown_moves b s ok g q; beneath = itself; begun = q }))) ∙ x))

  -- ---- an accepted event: its node is of the kind that it moves, and has the byte that it asks for
  pub accepted_kind : (e : Event) → event_refusal b xs s e ≡ 0
      → is_kind b (node_of e) (kind_number (event_kind e)) ≡ true
  accepted_kind (start t) z = answer_task t (start t) refl tt z
  accepted_kind (finish t) z = answer_task t (finish t) refl tt z
  accepted_kind (skip g) z = skip_optional g z

  pub accepted_byte : (e : Event) → event_refusal b xs s e ≡ 0 → node_byte s (node_of e) ≡ status_byte (asks e)
  accepted_byte (start t) z = answer_asked t (start t) refl tt z
  accepted_byte (finish t) z = answer_asked t (finish t) refl tt z
  accepted_byte (skip g) z = skip_waits g z

  -- which stands
  pub running_stands : (t : ℕ) → t < node_count b → node_byte s t ≡ 1 → stands (plan_of b) (listed xs) t ≡ true
  running_stands t l y = ⊎_elim (λ z. z) (λ z. absurd (omega (arith, y, absent_byte b xs s under t l z)))
      (either (stands (plan_of b) (listed xs) t))

  begin_stands : (t : ℕ) → event_refusal b xs s (start t) ≡ 0 → stands (plan_of b) (listed xs) t ≡ true
  unfolding begin_refusal stood
  begin_stands t z =
      let y = answer_task t (start t) refl tt z in
      let h = answer_asked t (start t) refl tt z in
      tree_stands b s t (stood t) (both_none (tree_refusal b s t (stood t)) _
      (both_none (begin_refusal b s (start t) (stood t)) _ (rest t (start t) refl tt y h ∙ z)).0).0

  skip_stands : (g : ℕ) → event_refusal b xs s (skip g) ≡ 0 → stands (plan_of b) (listed xs) g ≡ true
  unfolding stood
  skip_stands g z =
      let y = skip_optional g z in
      ⊎_elim
      (λ (x : begun_b (plan_of b) (status_in b s) g ≡ true). absurd (omega (arith, skip_18 g y x, z)))
      (λ (x : begun_b (plan_of b) (status_in b s) g ≡ false).
      tree_stands b s g (stood g) (sym (skips g ∙ rw (y, wrong_is g y ∙ x)) ∙ z))
      (either (begun_b (plan_of b) (status_in b s) g))

  pub accepted_stands : (e : Event) → event_refusal b xs s e ≡ 0 → stands (plan_of b) (listed xs) (node_of e) ≡ true
  accepted_stands (start t) z = begin_stands t z
  accepted_stands (finish t) z = running_stands t (kind_is b t 0 (accepted_kind (finish t) z)).0
      (accepted_byte (finish t) z)
  accepted_stands (skip g) z = skip_stands g z
