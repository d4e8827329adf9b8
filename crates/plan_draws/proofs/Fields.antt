-- The table of draws as it is filled, and the fields of nodes and conditions by the table. Assumes nothing.
use Rattle.std.proofs.Common.{◌≡◌, ℕ, ◌+◌, ◌-◌, ◌*◌, ◌/◌, ◌%◌, ◌<◌, ◌≤◌, List, length, get_or, set, refl, ap, ◌∙◌}
use Rattle.std.proofs.Common.{add-one, arith, length-set, get_or-set_other, get_or-set_same, eq-eqb, ne_eqb, le-leb}
use mathlib.Core.Logic.{by_cases}
use native.Mathlib.Decide.{ℕ_discrete}
use borrow.Author.Tests.{lt-leb}
use Rattle.plan_draws.specs.declared.Recipe.{Recipe}
use Rattle.plan_draws.specs.Drawn.{Allowed, next_state}
use Rattle.plan_draws.specs.Model.{state_after, given, draw, kind_drawn, task_draw, minutes_drawn, flag_drawn}
use Rattle.plan_draws.specs.Model.{pre_drawn, post_drawn, kind_in, minutes_in, value_in}
use Rattle.plan_draws.specs.Inner.{DRAWS, Drew}

-- ---- the first n draws are made, and the state is the one after them
pub record DrewTo (seed : ℕ) (draws : List ℕ) (state n : ℕ) : Type 0 where
  pub long : length draws ≡ DRAWS
  pub state_is : state ≡ state_after seed n
  pub at : (m : ℕ) → m < n → get_or draws m 0 ≡ given seed m

pub drew_none : (seed : ℕ) {draws : List ℕ} → length draws ≡ DRAWS → DrewTo seed draws seed 0
unfolding state_after
drew_none seed e = record { long = e; state_is = refl; at = λ m l. absurd (omega arith) }

pub drew_more : {seed : ℕ} {draws : List ℕ} {state state' n : ℕ} → n < DRAWS → state' ≡ next_state state
    → DrewTo seed draws state n → DrewTo seed (set draws n (state' / 65536)) state' (n + 1)
unfolding state_after given
drew_more {seed} {draws} {state} {state'} {n} l e d =
    let s : state' ≡ next_state (state_after seed n) = e ∙ ap next_state d.state_is in
    record {
      long = length-set draws n (state' / 65536) ∙ d.long;
      state_is = rw (add-one n) s;
      at = λ m h. by_cases (ℕ_discrete m n)
          (λ (z : m ≡ n). rw z (get_or-set_same draws n (state' / 65536) 0 (omega (arith, d.long))
          ∙ ap (λ (x : ℕ). x / 65536) s))
          (λ z. get_or-set_other draws n m (state' / 65536) 0 z ∙ d.at m (omega arith));
    }

-- a draw that is read from the table, below k
pub drawn_at : {seed : ℕ} {draws : List ℕ} → Drew seed draws → (n k : ℕ) → n < DRAWS
    → get_or draws n 0 % k ≡ draw seed n k
unfolding draw
drawn_at d n k l = rw (d.at n l)

-- ---- fields of nodes
module _ (r : Recipe) where
  pub kind_root : (n : ℕ) → n ≡ 0 → 1 ≡ kind_in r n
  unfolding kind_in
  kind_root n e = rw (eq-eqb n 0 e)

  pub kind_drawn_lem : (n : ℕ) → 0 < n → n ≤ r.groups → 1 + kind_drawn r (n - 1) ≡ kind_in r n
  unfolding kind_in
  kind_drawn_lem n z l = rw (ne_eqb n 0 (λ e. omega arith), le-leb n r.groups l)

  pub kind_task : (n : ℕ) → r.groups < n → 0 ≡ kind_in r n
  unfolding kind_in
  kind_task n l = rw (ne_eqb n 0 (λ e. omega arith), lt-leb n r.groups l)

  pub minutes_group : (n : ℕ) → n ≤ r.groups → 0 ≡ minutes_in r n
  unfolding minutes_in
  minutes_group n l = rw (le-leb n r.groups l)

  pub minutes_drawn_lem : (n : ℕ) → r.groups < n → minutes_drawn r (n - 1 - r.groups) ≡ minutes_in r n
  unfolding minutes_in
  minutes_drawn_lem n l = rw (lt-leb n r.groups l)

  -- ---- values of conditions
  pub value_pre : (i : ℕ) → i % 2 ≡ 0 → value_in r i ≡ flag_drawn r (i / 2) + 64 * pre_drawn r (i / 2)
  unfolding value_in
  value_pre i e = rw (eq-eqb (i % 2) 0 e) (omega arith)

  pub value_post : (i : ℕ) → i % 2 ≡ 1 → value_in r i ≡ flag_drawn r (i / 2) + 64 * post_drawn r (i / 2) + 256
  unfolding value_in
  value_post i e = rw (ne_eqb (i % 2) 0 (λ z. omega arith)) (omega arith)

-- ---- what is read from the table
module _ (r : Recipe) (ok : Allowed r) (draws : List ℕ) (d : Drew r.seed draws) where
  pub kind_read : (n : ℕ) → 0 < n → n ≤ r.groups → get_or draws (n - 1) 0 % 2 ≡ kind_drawn r (n - 1)
  unfolding kind_drawn
  kind_read n z l = drawn_at d (n - 1) 2 (omega (arith, ok.few_groups))

  pub minutes_task : (n : ℕ) → r.groups < n → n < 1 + r.groups + r.tasks
      → get_or draws (r.groups + 4 * (n - 1 - r.groups)) 0 % 60 ≡ minutes_in r n
  unfolding minutes_drawn task_draw
  minutes_task n h l =
      drawn_at d (r.groups + 4 * (n - 1 - r.groups)) 60 (omega (arith, ok.few_groups, ok.few_tasks))
      ∙ minutes_drawn_lem r n h

  -- flag and sign of condition i, the sign from draw n
  module _ (i n : ℕ) (l : i < 2 * r.tasks) (e : n ≡ r.groups + 4 * (i / 2) + 2 + i % 2) where
    flag_read : get_or draws (r.groups + 4 * (i / 2) + 1) 0 % 8 ≡ flag_drawn r (i / 2)
    unfolding flag_drawn task_draw
    flag_read = drawn_at d (r.groups + 4 * (i / 2) + 1) 8 (omega (arith, ok.few_groups, ok.few_tasks))

    pre_read : i % 2 ≡ 0 → get_or draws n 0 % 2 ≡ pre_drawn r (i / 2)
    unfolding pre_drawn task_draw
    pre_read z = let q : n ≡ r.groups + 4 * (i / 2) + 2 = omega arith in
        rw q (drawn_at d (r.groups + 4 * (i / 2) + 2) 2 (omega (arith, ok.few_groups, ok.few_tasks)))

    post_read : i % 2 ≡ 1 → get_or draws n 0 % 2 ≡ post_drawn r (i / 2)
    unfolding post_drawn task_draw
    post_read z = let q : n ≡ r.groups + 4 * (i / 2) + 3 = omega arith in
        rw q (drawn_at d (r.groups + 4 * (i / 2) + 3) 2 (omega (arith, ok.few_groups, ok.few_tasks)))

    pub literal_is : get_or draws (r.groups + 4 * (i / 2) + 1) 0 % 8 + 64 * (get_or draws n 0 % 2) ≡ value_in r i % 256
    literal_is =
        let x = flag_read in
        by_cases (ℕ_discrete (i % 2) 0) (λ (z : i % 2 ≡ 0). omega (arith, pre_read z, value_pre r i z))
        (λ z. let o : i % 2 ≡ 1 = omega arith in omega (arith, post_read o, value_post r i o))
