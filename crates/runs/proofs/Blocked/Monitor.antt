-- The monitor under blocked branches: as long as everything absent waits, each call meets what it meets in the whole
-- plan with one more test, a start or a skip at or under a blocked node; and what stands is complete exactly if it is
-- in the whole plan.
use Rattle.runs.proofs.Base.{◌≡◌, refl, ap, ◌≢◌, inl, inr, ◌↔◌, Bool, true, false, List, [], ◌∷◌}
use Rattle.runs.proofs.Base.{Among, ℕ, T}
use Rattle.runs.specs.Tests.{negate}
use Rattle.runs.specs.Searches.{either, any_in}
use Rattle.runs.specs.Plan.{Plan, itself, Node}
use Rattle.runs.specs.WellFormed.{WellFormed}
use Rattle.runs.specs.Execution.{waiting, running, State, Event, start, finish, skip, History, node_of}
use Rattle.runs.specs.Execution.{status_after, Execution, task_done, all_done, any_done, skip_done, Complete}
use Rattle.runs.specs.Execution.{Begun, Rival}
use Rattle.runs.specs.Execution.{by_branch, by_skip}
use Rattle.runs.specs.Calls.{Call, one, together, finishes, events, World, happen, happen_all, Refusal, no_task}
use Rattle.runs.specs.Calls.{wrong_status, branch_begun, order_open, pre_unmet, inc_broken, no_optional}
use Rattle.runs.specs.Calls.{not_rising, post_opposed, Task, WrongStatus, BranchBegun, OrderOpen, checks}
use Rattle.runs.specs.Blocked.{Stands}
use Rattle.runs.specs.Branches.{Blocks}
use Rattle.runs.specs.Model.Blocked.{stands, without}
use Rattle.runs.specs.Model.Monitor.{status_b, task_b, absent_b, wrong_status_b, branch_begun_b, order_open_b}
use Rattle.runs.specs.Model.Monitor.{applies_b}
use Rattle.runs.specs.Model.Monitor.{pre_unmet_b, inc_broken_b, post_opposed_b, or_else, first_of, settle, refusal_of}
use Rattle.runs.specs.Model.Monitor.{step}
use Rattle.runs.proofs.Reflect.{clash, decided, r_map, r_negate, same_test, true_T}
use Rattle.runs.proofs.Plan.{under_node, child_under}
use Rattle.runs.proofs.Execution.{complete_begun, execution_outside, running_moved}
use Rattle.runs.proofs.Calls.Listed.{any_same, none_in}
use Rattle.runs.proofs.Calls.Reflect.{r_status, r_task, r_wrong_status, r_branch_begun, r_order_open}
use Rattle.runs.proofs.Blocked.Standing.{r_stands, r_standing_order, standing_child, child_stands, stands_above}
use Rattle.runs.proofs.Blocked.Standing.{standing_under, under_stands, without_thinner}
use Rattle.runs.proofs.Blocked.Thinner.{Thinner, complete_in_lem}
use Rattle.runs.proofs.Blocked.Branches.{blocked_well_formed, parts_stand}

-- two tables of tests meet the same in a list of checks: row by row, or as far as a row that applies in both
data Agree (g h : Refusal → Bool) : List Refusal → Type 0 where
  no_more : Agree g h []
  both_apply : {r : Refusal} {l : List Refusal} → g r ≡ true → h r ≡ true → Agree g h (r ∷ l)
  alike : {r : Refusal} {l : List Refusal} → g r ≡ h r → (h r ≡ false → Agree g h l) → Agree g h (r ∷ l)

agree_first : {g h : Refusal → Bool} {l : List Refusal} → Agree g h l → first_of g l ≡ first_of h l
unfolding first_of
agree_first no_more = refl
agree_first (both_apply x y) = rw (x, y)
agree_first {g} {h} (alike {r = r} {l = l} e k) = rw e (go (h r) refl (λ z. agree_first (k z)))
  where
    go : (v : Bool) → h r ≡ v → (h r ≡ false → first_of g l ≡ first_of h l)
        → or_else v r (λ u. first_of g l) ≡ or_else v r (λ u. first_of h l)
    go true z ih = refl
    go false z ih = ih z

-- rows that are the same
alike_row : {g h : Refusal → Bool} {r : Refusal} {l : List Refusal} → g r ≡ h r → Agree g h l → Agree g h (r ∷ l)
alike_row e k = alike e (λ z. k)

-- a test that does not apply
negate_none : (v : Bool) → negate v ≡ false → T v
unfolding negate
negate_none true q = tt
negate_none false q = clash cc

module _ (p : Plan) (w : WellFormed p) (S : ℕ → Bool) (ok : Blocks p S) where
  abbrev q : Plan
  q = without p S

  wq : WellFormed q
  wq = blocked_well_formed p w S ok

  standing : (i : ℕ) → Node q i → Stands p S i
  standing i l = (r_stands p w S i).to l

  -- after every execution of the root, what is absent waits
  pub absent_waits : {h : History} → Execution q 0 h → (t : ℕ) → ¬ Stands p S t → status_after h t ≡ waiting
  absent_waits x t k = execution_outside q wq x t (λ u. k (standing t (under_node q wq.root_node u)))

  -- the absent tasks wait
  module _ (s : State) (idle : (t : ℕ) → Node p t → ¬ Stands p S t → s t ≡ waiting) where
    -- what has begun stands
    begun_stands : {c : ℕ} → Node p c → (t : Begun p s c) → Stands p S t.who
    begun_stands l t = at (decided (r_stands p w S t.who))
      where
        at : Dec (Stands p S t.who) → Stands p S t.who
        at (yes x) = x
        at (no k) = absurd (t.begun (idle t.who (under_node p l t.beneath) k))

    begun_out : {c : ℕ} → Node p c → Begun p s c → Stands p S c × Begun q s c
    begun_out l t = let x = begun_stands l t in (
      stands_above p w S t.beneath x,
      record {
        who = t.who;
        moves = t.moves;
        beneath = standing_under p w S t.beneath x;
        begun = t.begun;
      },
    )

    complete_out : {n : ℕ} → Stands p S n → Complete p s n → Complete q s n
    complete_out x (task_done k d) = task_done k d
    complete_out x (all_done k f) = all_done k (λ c hc. let (h, y) = child_stands p w S hc in complete_out y (f c h))
    complete_out x (any_done c k hc d) =
        let y = (begun_out hc.node (complete_begun p w hc.not_root hc.node d)).0 in
        any_done c k (standing_child p w S hc y) (complete_out y d)
    complete_out x (skip_done k d) = skip_done k d

    pub complete_same : (n : ℕ) → Stands p S n → Complete q s n ↔ Complete p s n
    complete_same n x = (complete_in_lem p w q.tree q.order wq thinner itself, complete_out x)
      where
        thinner : Thinner p q.tree q.order n
        thinner = without_thinner p w S x
            (λ g c ug k hc. parts_stand p w S ok k hc (standing g (under_node q ((r_stands p w S n).from x) ug)))

    begun_in : {c : ℕ} → Begun q s c → Begun p s c
    begun_in t = record { who = t.who; moves = t.moves; beneath = under_stands p w S t.beneath; begun = t.begun }

    rival_same : (g b : ℕ) → Rival q s g b ↔ Rival p s g b
    rival_same g b = (to, from)
      where
        to : Rival q s g b → Rival p s g b
        to (by_branch c hc ne t) = by_branch c (child_stands p w S hc).0 ne (begun_in t)
        to (by_skip k d) = by_skip k d

        from : Rival p s g b → Rival q s g b
        from (by_branch c hc ne t) = let (x, y) = begun_out hc.node t in by_branch c (standing_child p w S hc x) ne y
        from (by_skip k d) = by_skip k d

    -- 19
    branch_same : (t : ℕ) → Stands p S t → BranchBegun q s t ↔ BranchBegun p s t
    branch_same t x = (
      λ y. let (h, z) = child_stands p w S y.own_child in
          record {
            group = y.group;
            own = y.own;
            picks = y.picks;
            own_child = h;
            above = under_stands p w S y.above;
            rival = (rival_same y.group y.own).0 y.rival;
          },
      λ y. record {
        group = y.group;
        own = y.own;
        picks = y.picks;
        own_child = standing_child p w S y.own_child (stands_above p w S y.above x);
        above = standing_under p w S y.above x;
        rival = (rival_same y.group y.own).1 y.rival;
      },
    )

    -- 20
    order_same : (t : ℕ) → Stands p S t → OrderOpen q s t ↔ OrderOpen p s t
    order_same t x = (
      λ y. let (o, (xa, xb)) = (r_standing_order p w S y.earlier y.later).to y.ordered in record {
        earlier = y.earlier;
        later = y.later;
        ordered = o;
        above = under_stands p w S y.above;
        incomplete = λ d. y.incomplete (complete_out xa d);
      },
      λ y. let xb = stands_above p w S y.above x in
          let xa = earlier y.earlier y.later y.ordered xb in record {
            earlier = y.earlier;
            later = y.later;
            ordered = (r_standing_order p w S y.earlier y.later).from (y.ordered, (xa, xb));
            above = standing_under p w S y.above x;
            incomplete = λ d. y.incomplete ((complete_same y.earlier xa).0 d);
          },
    )
      where
        earlier : (a b : ℕ) → T (p.order a b) → Stands p S b → Stands p S a
        earlier a b o xb = let (g, k, ha, hb) = w.order_group a b o in
            parts_stand p w S ok k ha (stands_above p w S (child_under p hb) xb)

  happen_same : (a : World) (h : History) → happen_all q a h ≡ happen_all p a h
  happen_same a [] = refl
  happen_same a (e ∷ h) = ap (λ b. happen p b e) (happen_same a h)

  -- the table of the whole plan with one more test: a start or a skip of what does not stand meets 19. (A number that
  -- is no task is told by 17, so 18 asks for the status alone.)
  unfoldable pub tested_b : World → Call → Refusal → Bool
  tested_b a (one (start t)) wrong_status = negate (status_b (a.status t) waiting)
  tested_b a (one (finish t)) wrong_status = negate (status_b (a.status t) running)
  tested_b a (one (skip g)) wrong_status = wrong_status_b p a.status (skip g)
  tested_b a (one e) no_task = applies_b p p a (one e) no_task
  tested_b a (one e) branch_begun = either (negate (stands p S (node_of e)))
      (λ u. branch_begun_b p a.status (node_of e))
  tested_b a (one e) order_open = applies_b p p a (one e) order_open
  tested_b a (one e) pre_unmet = applies_b p p a (one e) pre_unmet
  tested_b a (one e) inc_broken = applies_b p p a (one e) inc_broken
  tested_b a (one e) no_optional = applies_b p p a (one e) no_optional
  tested_b a (one e) not_rising = false
  tested_b a (one e) post_opposed = false
  tested_b a (together ts) no_task = applies_b p p a (together ts) no_task
  tested_b a (together ts) wrong_status = any_in ts (λ t. negate (status_b (a.status t) running))
  tested_b a (together ts) branch_begun = false
  tested_b a (together ts) order_open = false
  tested_b a (together ts) pre_unmet = false
  tested_b a (together ts) inc_broken = applies_b p p a (together ts) inc_broken
  tested_b a (together ts) no_optional = false
  tested_b a (together ts) not_rising = applies_b p p a (together ts) not_rising
  tested_b a (together ts) post_opposed = applies_b p p a (together ts) post_opposed

  -- what is absent waits: of a state, 02's 16 sees to it
  module _ (a : World) (idle : (t : ℕ) → Node p t → ¬ Stands p S t → a.status t ≡ waiting) where
    -- 18, of a task
    status_row : (t : ℕ) → Task p t
        → wrong_status_b q a.status (finish t) ≡ negate (status_b (a.status t) running)
    status_row t k =
        same_test _ _ (r_map (to (decided (r_stands p w S t)), inr) (r_wrong_status q wq a.status (finish t)))
        (r_negate _ (r_status _ _))
      where
        to : Dec (Stands p S t) → WrongStatus q a.status (finish t) → a.status t ≢ running
        to (yes x) (inl n) = absurd (n ((r_stands p w S t).from x))
        to (no n) (inl x) = λ r. running_moved r (idle t k.node n)
        to d (inr n) = n

    -- 18, of a skip
    skip_row : (g : ℕ) → wrong_status_b q a.status (skip g) ≡ wrong_status_b p a.status (skip g)
    skip_row g = same_test _ _ (r_map (to, from) (r_wrong_status q wq a.status (skip g)))
        (r_wrong_status p w a.status (skip g))
      where
        to : WrongStatus q a.status (skip g) → WrongStatus p a.status (skip g)
        to (inl k) = inl k
        to (inr (c, hc, y)) = inr (c, (child_stands p w S hc).0, begun_in a.status idle y)

        from : WrongStatus p a.status (skip g) → WrongStatus q a.status (skip g)
        from (inl k) = inl k
        from (inr (c, hc, y)) = let (x, z) = begun_out a.status idle hc.node y in
            inr (c, standing_child p w S hc x, z)

    -- 19 and 20, of what stands
    branch_row : (t : ℕ) → Stands p S t → branch_begun_b q a.status t ≡ branch_begun_b p a.status t
    branch_row t x = same_test _ _ (r_map (branch_same a.status idle t x) (r_branch_begun q wq a.status t))
        (r_branch_begun p w a.status t)

    order_row : (t : ℕ) → Stands p S t → order_open_b q a.status t ≡ order_open_b p a.status t
    order_row t x = same_test _ _ (r_map (order_same a.status idle t x) (r_order_open q wq a.status t))
        (r_order_open p w a.status t)

    -- 19 and 20, and the rows after them
    begins : (e : Event) (l : List Refusal) → Agree (applies_b p q a (one e)) (tested_b a (one e)) l
        → Agree (applies_b p q a (one e)) (tested_b a (one e)) (branch_begun ∷ order_open ∷ l)
    unfolding applies_b tested_b absent_b either negate
    begins e l rest = go (stands p S (node_of e)) refl
      where
        go : (v : Bool) → stands p S (node_of e) ≡ v
            → Agree (applies_b p q a (one e)) (tested_b a (one e)) (branch_begun ∷ order_open ∷ l)
        go true z = let x = (r_stands p w S (node_of e)).to (true_T _ z) in
            alike_row (rw (z, branch_row (node_of e) x)) (alike_row (order_row (node_of e) x) rest)
        go false z = both_apply {r = branch_begun} (rw z) (rw z)

    listed_tasks : (ts : List ℕ) → any_in ts (λ t. negate (task_b p t)) ≡ false → (t : ℕ) → Among t ts → Task p t
    listed_tasks ts z t i = (r_task p t).to (negate_none _ (none_in ts _ z t i))

    tested : (c : Call) → Agree (applies_b p q a c) (tested_b a c) (checks c)
    unfolding applies_b tested_b wrong_status_b pre_unmet_b inc_broken_b post_opposed_b
    tested (one (start t)) =
        alike_row refl (alike_row refl (begins (start t) _ (alike_row refl (alike_row refl no_more))))
    tested (one (finish t)) = alike refl (λ z. alike_row (status_row t ((r_task p t).to (negate_none _ z)))
        (alike_row refl no_more))
    tested (one (skip g)) = alike_row refl (alike_row (skip_row g) (begins (skip g) _ no_more))
    tested (together ts) = alike_row refl (alike refl (λ z.
        alike_row (any_same ts _ _ (λ t i. status_row t (listed_tasks ts z t i)))
        (alike_row refl (alike_row (rw (happen_same a (finishes ts))) no_more))))

    -- the monitor on what is left meets what this table says
    pub tested_is : (c : Call) → refusal_of p q a c ≡ first_of (tested_b a c) (checks c)
    unfolding refusal_of
    tested_is c = agree_first (tested c)

    pub step_is : (c : Call) → step p q a c ≡ settle (first_of (tested_b a c) (checks c)) a (happen_all p a (events c))
    unfolding step
    step_is c = rw (tested_is c, happen_same a (events c))
