-- The chain of refusals of several finishes in one step: 25, 17, 18, 26 and 22. Assumes nothing.
use mathlib.Core.Path.{◌≡◌, refl, sym, ap, ◌∙◌, fun_ext}
use mathlib.Core.Bool.{Bool, true, false, cond, not, true≢false}
use mathlib.Core.List.{List}
use mathlib.Core.Option.{none}
use Prim.Native.Nat.{ℕ, suc}
use native.Mathlib.Omega.{arith}
use lib.ListN.{take, replicate}
use lib.Dec.{eqb}
use borrow.Author.Tests.{eqb-true, not-false}
use Rattle.run_flags.specs.Inner.{all_byte}
use Rattle.plan_format.specs.Format.{is_kind, cond_count}
use Rattle.base.proofs.Booleans.{not_passed}
use Rattle.plan_check.specs.Meaning.{plan_of}
use Rattle.runs.specs.Plan.{post, place_number}
use Rattle.runs.specs.Execution.{running}
use Rattle.runs.specs.Calls.{together, Rising, no_task, wrong_status, inc_broken, not_rising, post_opposed}
use Rattle.runs.specs.Model.Monitor.{first_of, or_else, refusal_number, applies_b, task_b, status_b, not_rising_b}
use Rattle.runs.specs.Model.Monitor.{post_opposed_b}
use Rattle.runs.specs.Tests.{negate}
use Rattle.runs.specs.Searches.{any_below, any_in, listed}
use Rattle.runs.proofs.Reflect.{T_true}
use Rattle.runs.proofs.Calls.Listed.{r_not_rising, any_same, none_in, rises}
use Rattle.run_starts.specs.Starts.{node_byte}
use Rattle.run_state.specs.State.{status_in, world_of, state_refusal_under}
use Rattle.run_state.specs.Inner.{state_refusal}
use Rattle.run_state.proofs.Passed.{passed}
use Rattle.runs.proofs.Blocked.Monitor.{tested_b}
use Rattle.run_state.specs.Made.{made}
use Rattle.node_sets.specs.Sets.{Each}
use Rattle.run_conditions.specs.Conditions.{unmet_at, broken_at}
use Rattle.run_conditions.proofs.Refusals.{opposed_is, broken_unless}
use Rattle.run_refusals.specs.Events.{call_refusal}
use Rattle.run_refusals.proofs.OfKind.{task_is, status_is}
use Rattle.run_refusals.proofs.Answers.{by_table}

together_chain : (a b c d e : Bool) → refusal_number
    (or_else a not_rising (λ u. or_else b no_task (λ u. or_else c wrong_status
    (λ u. or_else d post_opposed (λ u. or_else e inc_broken (λ u. none))))))
    ≡ cond a 25 (cond b 17 (cond c 18 (cond d 26 (cond e 22 0))))
together_chain true b c d e = refl
together_chain false true c d e = refl
together_chain false false true d e = refl
together_chain false false false true e = refl
together_chain false false false false true = refl
together_chain false false false false false = refl

-- ---- what the tests of a list tell
module _ (b s : List ℕ) (ok : state_refusal b s ≡ 0) (ts : List ℕ) where
  abbrev unfit : ℕ → Bool
  unfit t = not (is_kind b t 0)

  abbrev idle : ℕ → Bool
  idle t = not (eqb (node_byte s t) 1)

  unfit_is : any_in ts unfit ≡ any_in ts (λ t. not (task_b (plan_of b) t))
  unfit_is = ap (any_in ts) (fun_ext (λ t. ap not (task_is b s ok t)))

  module _ (y : not_rising_b ts ≡ false) where
    pub is_rising : Rising ts
    is_rising = rises (λ k. true≢false (sym (T_true _ ((r_not_rising ts).from k)) ∙ y))

    -- 26, by what the function has at hand
    pub together_26 : (M : ℕ → Bool) → M ≡ listed ts → (next : List ℕ) → next ≡ made b (place_number post) M (take 8 s)
        → (r : Bool) → r ≡ any_below (cond_count b) (unmet_at b (place_number post) M next)
        → r ≡ post_opposed_b (plan_of b) ts
    together_26 M m next n r h = rw (n, m) at h ∙ opposed_is b s ok ts is_rising

  module _ (z : any_in ts unfit ≡ false) where
    pub tasks : Each ts (λ t. is_kind b t 0 ≡ true)
    tasks t i = not-false _ (none_in ts unfit z t i)

    idle_is : any_in ts idle ≡ any_in ts (λ t. not (status_b (status_in b s t) running))
    idle_is = any_same ts _ _ (λ t i. ap not (status_is b s ok t (tasks t i) running))

  running_all : any_in ts idle ≡ false → Each ts (λ t. node_byte s t ≡ 1)
  running_all x t i = eqb-true _ _ (not-false _ (none_in ts idle x t i))

-- ---- the chain, with a list of blocked nodes
module _ (b xs s : List ℕ) (under : state_refusal_under b xs s ≡ 0) (ts : List ℕ) where
  abbrev ok : state_refusal b s ≡ 0
  ok = passed b xs s under

  abbrev answer : ℕ
  answer = call_refusal b xs s (together ts)

  chain : answer ≡ cond (not_rising_b ts) 25 (cond (any_in ts (λ t. not (task_b (plan_of b) t))) 17
      (cond (any_in ts (λ t. not (status_b (status_in b s t) running))) 18
      (cond (post_opposed_b (plan_of b) ts) 26
      (cond (applies_b (plan_of b) (plan_of b) (world_of b s) (together ts) inc_broken) 22 0))))
  unfolding first_of tested_b applies_b world_of negate
  chain = by_table b xs s under (together ts) ∙ together_chain (not_rising_b ts)
      (any_in ts (λ t. not (task_b (plan_of b) t))) (any_in ts (λ t. not (status_b (status_in b s t) running)))
      (post_opposed_b (plan_of b) ts) (applies_b (plan_of b) (plan_of b) (world_of b s) (together ts) inc_broken)

  pub together_25 : not_rising_b ts ≡ true → 25 ≡ answer
  together_25 y = sym (chain ∙ rw y)

  module _ (y : not_rising_b ts ≡ false) where
    pub together_17 : any_in ts (unfit b s ok ts) ≡ true → 17 ≡ answer
    together_17 z = sym (chain ∙ rw (y, sym (unfit_is b s ok ts) ∙ z))

    module _ (z : any_in ts (unfit b s ok ts) ≡ false) where
      pub together_18 : any_in ts (idle b s ok ts) ≡ true → 18 ≡ answer
      together_18 x = sym (chain ∙ rw (y, sym (unfit_is b s ok ts) ∙ z, sym (idle_is b s ok ts z) ∙ x))

      module _ (x : any_in ts (idle b s ok ts) ≡ false) where
        rest : answer ≡ cond (post_opposed_b (plan_of b) ts) 26
            (cond (applies_b (plan_of b) (plan_of b) (world_of b s) (together ts) inc_broken) 22 0)
        rest = chain ∙ rw (y, sym (unfit_is b s ok ts) ∙ z, sym (idle_is b s ok ts z) ∙ x)

        pub opposed : post_opposed_b (plan_of b) ts ≡ true → 26 ≡ answer
        opposed v = sym (rest ∙ rw v)

        pub unopposed : post_opposed_b (plan_of b) ts ≡ false → (M : ℕ → Bool) → M ≡ listed ts → (r : Bool)
            → r ≡ any_below (cond_count b) (broken_at b s (made b (place_number post) M (replicate 8 (all_byte false)))
            (made b (place_number post) M (replicate 8 (all_byte true))) M) → cond r 22 0 ≡ answer
        unopposed v M m r h = ap (λ (x : Bool). cond x 22 0)
            (rw m at h ∙ broken_unless b s ok ts (is_rising b s ok ts y) v) ∙ sym (rest ∙ rw v)

  -- ---- an accepted list rises, and its tasks run
  module _ (z : answer ≡ 0) where
    passes : (v : Bool) (n : ℕ) → (v ≡ true → suc n ≡ answer) → v ≡ false
    passes v n h = not_passed v (λ y. omega (arith, h y, z))

    accepted_25 : not_rising_b ts ≡ false
    accepted_25 = passes _ 24 together_25

    accepted_17 : any_in ts (unfit b s ok ts) ≡ false
    accepted_17 = passes _ 16 (together_17 accepted_25)

    pub accepted_rises : Rising ts
    accepted_rises = is_rising b s ok ts accepted_25

    pub accepted_tasks : Each ts (λ t. is_kind b t 0 ≡ true)
    accepted_tasks = tasks b s ok ts accepted_17

    pub accepted_running : Each ts (λ t. node_byte s t ≡ 1)
    accepted_running = running_all b s ok ts (passes _ 17 (together_18 accepted_25 accepted_17))
