-- The draws that 02 makes one after another, by their numbers: there are such draws, and no others. Assumes nothing.
use Rattle.std.proofs.Common.{◌≡◌, ℕ, zero, suc, ◌+◌, ◌-◌, ◌<◌, ◌≤◌, List, [], ◌∷◌, ◌++◌, refl, ap, append_assoc}
use Rattle.std.proofs.Common.{append-nil, arith}
use mathlib.Core.Logic.{by_cases}
use native.Mathlib.Decide.{ℕ_discrete}
use Rattle.plan_draws.specs.declared.Recipe.{Recipe}
use Rattle.base.specs.Each.{each}
use Rattle.plan_draws.specs.Drawn.{DrawnFrom, none, more, Draws}
use Rattle.plan_draws.specs.Model.{state_after, given, draw, kind_drawn, task_draw, minutes_drawn, flag_drawn}
use Rattle.plan_draws.specs.Model.{pre_drawn, post_drawn, before_drawn}

module _ (seed : ℕ) where
  -- from the state after n draws, draw n comes first
  to_first : (n : ℕ) {k v : ℕ} {ds : List (ℕ × ℕ)} → v ≡ draw seed n k → DrawnFrom (state_after seed (suc n)) ds
      → DrawnFrom (state_after seed n) ((k, v) ∷ ds)
  unfolding state_after given draw
  to_first n e d = more e d

  of_first : (n : ℕ) {k v : ℕ} {ds : List (ℕ × ℕ)} → DrawnFrom (state_after seed n) ((k, v) ∷ ds)
      → (v ≡ draw seed n k) × DrawnFrom (state_after seed (suc n)) ds
  unfolding state_after given draw
  of_first n (more e d) = (e, d)

  -- each i draws the list f i from draw `at i` on
  module _ (f : ℕ → List (ℕ × ℕ)) (at : ℕ → ℕ) where
    abbrev from : ℕ → List (ℕ × ℕ) → Type 0
    from i ds = DrawnFrom (state_after seed (at i)) ds

    each_to : ((i : ℕ) (ds : List (ℕ × ℕ)) → from (suc i) ds → from i (f i ++ ds))
        → (i n : ℕ) (ds : List (ℕ × ℕ)) → from (i + n) ds → from i (each f i n ++ ds)
    each_to h i zero ds d = let e : i + 0 ≡ i = omega arith in rw e at d
    each_to h i (suc n) ds d = let e : i + suc n ≡ suc i + n = omega arith in
        rw append_assoc (h i (each f (suc i) n ++ ds) (each_to h (suc i) n ds (rw e at d)))

    each_of : (P : ℕ → Type 0) → ((i : ℕ) (ds : List (ℕ × ℕ)) → from i (f i ++ ds) → P i × from (suc i) ds)
        → (i n : ℕ) (ds : List (ℕ × ℕ)) → from i (each f i n ++ ds)
        → ((m : ℕ) → i ≤ m → m < i + n → P m) × from (i + n) ds
    each_of P h i zero ds d = let e : i + 0 ≡ i = omega arith in (λ m l u. absurd (omega arith), rw e d)
    each_of P h i (suc n) ds d =
        let e : i + suc n ≡ suc i + n = omega arith in
        let x = h i (each f (suc i) n ++ ds) (rw append_assoc at d) in
        let y = each_of P h (suc i) n ds x.1 in (
          λ m l u. by_cases (ℕ_discrete m i) (λ (z : m ≡ i). rw z x.0) (λ z. y.0 m (omega arith) (omega arith)),
          rw e y.1,
        )

module _ (r : Recipe) where
  -- a group draws once
  single_to : (a i : ℕ) (ds : List (ℕ × ℕ)) → DrawnFrom (state_after r.seed (a + suc i)) ds
      → DrawnFrom (state_after r.seed (a + i)) ((2, draw r.seed (a + i) 2) ∷ [] ++ ds)
  single_to a i ds d = let e : a + suc i ≡ suc (a + i) = omega arith in to_first r.seed (a + i) refl (rw e at d)

  single_of : (v : ℕ → ℕ) (a i : ℕ) (ds : List (ℕ × ℕ)) → DrawnFrom (state_after r.seed (a + i)) ((2, v i) ∷ [] ++ ds)
      → (v i ≡ draw r.seed (a + i) 2) × DrawnFrom (state_after r.seed (a + suc i)) ds
  single_of v a i ds d = let e : a + suc i ≡ suc (a + i) = omega arith in rw e (of_first r.seed (a + i) d)

  -- a task draws four times
  module _ (j : ℕ) where
    second : task_draw r j + 1 ≡ suc (task_draw r j)
    second = omega arith

    third : task_draw r j + 2 ≡ suc (suc (task_draw r j))
    third = omega arith

    fourth : task_draw r j + 3 ≡ suc (suc (suc (task_draw r j)))
    fourth = omega arith

    later : task_draw r (suc j) ≡ suc (suc (suc (suc (task_draw r j))))
    unfolding task_draw
    later = omega arith

  task_to : (j : ℕ) (ds : List (ℕ × ℕ)) → DrawnFrom (state_after r.seed (task_draw r (suc j))) ds
      → DrawnFrom (state_after r.seed (task_draw r j))
      ((60, minutes_drawn r j) ∷ (8, flag_drawn r j) ∷ (2, pre_drawn r j) ∷ (2, post_drawn r j) ∷ [] ++ ds)
  unfolding minutes_drawn flag_drawn pre_drawn post_drawn
  task_to j ds d =
      to_first r.seed (task_draw r j) refl
      (to_first r.seed (suc (task_draw r j)) (ap (λ (n : ℕ). draw r.seed n 8) (second j))
      (to_first r.seed (suc (suc (task_draw r j))) (ap (λ (n : ℕ). draw r.seed n 2) (third j))
      (to_first r.seed (suc (suc (suc (task_draw r j)))) (ap (λ (n : ℕ). draw r.seed n 2) (fourth j))
      (rw (later j) at d))))

  -- in which state the tasks begin, and then the groups again
  tasks_first : task_draw r 0 ≡ 0 + r.groups
  unfolding task_draw
  tasks_first = omega arith

  orders_first : task_draw r r.tasks + 0 ≡ task_draw r (0 + r.tasks)
  orders_first = let e : 0 + r.tasks ≡ r.tasks = omega arith in rw e (omega arith)

  -- what groups draw, one below 2 each; what tasks draw
  abbrev group_list : (ℕ → ℕ) → ℕ → List (ℕ × ℕ)
  group_list v n = each (λ i. (2, v i) ∷ []) 0 n

  abbrev task_list : (ℕ → ℕ) → (ℕ → ℕ) → (ℕ → ℕ) → (ℕ → ℕ) → List (ℕ × ℕ)
  task_list m f n l = each (λ j. (60, m j) ∷ (8, f j) ∷ (2, n j) ∷ (2, l j) ∷ []) 0 r.tasks

  abbrev tasks_drawn : List (ℕ × ℕ)
  tasks_drawn = task_list (minutes_drawn r) (flag_drawn r) (pre_drawn r) (post_drawn r)

  abbrev orders_drawn : List (ℕ × ℕ)
  orders_drawn = group_list (before_drawn r) (r.groups - 1)

  orders_to_lem : DrawnFrom (state_after r.seed (task_draw r (0 + r.tasks))) orders_drawn
  unfolding before_drawn
  orders_to_lem = rw (← orders_first, ← append-nil orders_drawn) (each_to r.seed (λ i. (2, before_drawn r i) ∷ [])
      (λ i. task_draw r r.tasks + i) (single_to (task_draw r r.tasks)) 0 (r.groups - 1) [] none)

  tasks_to : DrawnFrom (state_after r.seed (0 + r.groups)) (tasks_drawn ++ orders_drawn)
  tasks_to = rw (← tasks_first) (each_to r.seed
      (λ j. (60, minutes_drawn r j) ∷ (8, flag_drawn r j) ∷ (2, pre_drawn r j) ∷ (2, post_drawn r j) ∷ [])
      (task_draw r) task_to 0 r.tasks orders_drawn orders_to_lem)

  pub all_drawn : DrawnFrom r.seed (group_list (kind_drawn r) r.groups ++ (tasks_drawn ++ orders_drawn))
  unfolding state_after kind_drawn
  all_drawn = each_to r.seed (λ i. (2, draw r.seed i 2) ∷ []) (λ i. i) (λ i ds d. to_first r.seed i refl d)
      0 r.groups (tasks_drawn ++ orders_drawn) tasks_to

  unfoldable pub draws_of : Draws r
  draws_of = record {
    kind = kind_drawn r;
    before = before_drawn r;
    minutes = minutes_drawn r;
    flag = flag_drawn r;
    pre = pre_drawn r;
    post = post_drawn r;
    drawn = rw append_assoc all_drawn;
  }

  -- the draws of a plan are those of these numbers
  pub record ByNumber (d : Draws r) : Type 0 where
    pub kind : (i : ℕ) → i < r.groups → d.kind i ≡ kind_drawn r i
    pub minutes : (j : ℕ) → j < r.tasks → d.minutes j ≡ minutes_drawn r j
    pub flag : (j : ℕ) → j < r.tasks → d.flag j ≡ flag_drawn r j
    pub pre : (j : ℕ) → j < r.tasks → d.pre j ≡ pre_drawn r j
    pub post : (j : ℕ) → j < r.tasks → d.post j ≡ post_drawn r j
    pub before : (i : ℕ) → i < r.groups - 1 → d.before i ≡ before_drawn r i

  task_of : (m f n l : ℕ → ℕ) (j : ℕ) (ds : List (ℕ × ℕ))
      → DrawnFrom (state_after r.seed (task_draw r j)) ((60, m j) ∷ (8, f j) ∷ (2, n j) ∷ (2, l j) ∷ [] ++ ds)
      → ((m j ≡ minutes_drawn r j) × (f j ≡ flag_drawn r j) × (n j ≡ pre_drawn r j) × (l j ≡ post_drawn r j))
      × DrawnFrom (state_after r.seed (task_draw r (suc j))) ds
  unfolding minutes_drawn flag_drawn pre_drawn post_drawn
  task_of m f n l j ds d =
      let x = of_first r.seed (task_draw r j) d in
      let y = of_first r.seed (suc (task_draw r j)) x.1 in
      let z = of_first r.seed (suc (suc (task_draw r j))) y.1 in
      let w = of_first r.seed (suc (suc (suc (task_draw r j)))) z.1 in
      ((x.0, rw (second j) y.0, rw (third j) z.0, rw (fourth j) w.0), rw (later j) w.1)

  pub draws_only : (d : Draws r) → ByNumber d
  unfolding state_after kind_drawn before_drawn
  draws_only d =
      let a = each_of r.seed (λ i. (2, d.kind i) ∷ []) (λ i. i) (λ i. d.kind i ≡ draw r.seed i 2)
      (λ i ds h. of_first r.seed i h) 0 r.groups
      (task_list d.minutes d.flag d.pre d.post ++ group_list d.before (r.groups - 1))
      (rw append_assoc at d.drawn) in
      let b = each_of r.seed
      (λ j. (60, d.minutes j) ∷ (8, d.flag j) ∷ (2, d.pre j) ∷ (2, d.post j) ∷ []) (task_draw r)
      (λ j. (d.minutes j ≡ minutes_drawn r j) × (d.flag j ≡ flag_drawn r j) × (d.pre j ≡ pre_drawn r j)
      × (d.post j ≡ post_drawn r j))
      (task_of d.minutes d.flag d.pre d.post) 0 r.tasks (group_list d.before (r.groups - 1))
      (rw tasks_first a.1) in
      let c = each_of r.seed (λ i. (2, d.before i) ∷ []) (λ i. task_draw r r.tasks + i)
      (λ i. d.before i ≡ draw r.seed (task_draw r r.tasks + i) 2)
      (single_of d.before (task_draw r r.tasks)) 0 (r.groups - 1) [] (rw (orders_first, append-nil) b.1) in
      record {
        kind = λ i l. a.0 i (omega arith) (omega arith);
        minutes = λ j l. (b.0 j (omega arith) (omega arith)).0;
        flag = λ j l. (b.0 j (omega arith) (omega arith)).1;
        pre = λ j l. (b.0 j (omega arith) (omega arith)).2;
        post = λ j l. (b.0 j (omega arith) (omega arith)).3;
        before = λ i l. c.0 i (omega arith) (omega arith);
      }
