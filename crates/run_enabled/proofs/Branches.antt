-- Refusal 19 by the numbers of begun branches along the way up. Assumes nothing.
use mathlib.Core.Path.{◌≡◌, sym, ap, ◌∙◌}
use mathlib.Core.Logic.{◌⊎◌, inl, inr, ⊎_elim}
use mathlib.Core.Bool.{Bool, true, false, not, ◌&&◌, ◌||◌, true≢false, or-true}
use mathlib.Core.List.{List}
use Prim.Native.Nat.{ℕ, ◌+◌, ◌<◌}
use native.Mathlib.Omega.{arith}
use lib.Dec.{eqb, ltb}
use borrow.Author.Tests.{eqb-true, eqb-false, eq-eqb, ne_eqb, lt-ltb, ltb-true, not-true}
use Rattle.plan_format.specs.Format.{node_count, parent_of, kind_of, is_kind}
use Rattle.plan_rules.specs.Rules.{is_child}
use Rattle.base.proofs.Booleans.{and_both, and_of, not_passed, or_split}
use Rattle.plan_rules.proofs.Causes.{parent_group}
use Rattle.plan_check.specs.Meaning.{plan_of}
use Rattle.plan_check.proofs.Accepted.{Clean}
use Rattle.plan_check.proofs.Meaning.{kind_is, group_is}
use Rattle.plan_check.proofs.Nodes.{is_child_lem, child_test, is_node, node_is, plan_kind, other_kind, kind_choice}
use Rattle.plan_check.proofs.Nodes.{choice_kind}
use Rattle.runs.specs.Plan.{Picks, Child, Under}
use Rattle.runs.specs.Execution.{done, Begun, Rival, by_branch, by_skip}
use Rattle.runs.specs.Calls.{BranchBegun}
use Rattle.runs.specs.Model.Monitor.{begun_b, branch_begun_b}
use Rattle.runs.proofs.Reflect.{Reflects, true_T, T_true}
use Rattle.runs.proofs.Plan.Trees.{under_le, child_lt}
use Rattle.runs.proofs.Execution.Completeness.{picks_moves, done_moved}
use Rattle.runs.proofs.Calls.Reflect.{r_begun, r_branch_begun}
use Rattle.run_starts.specs.Starts.{node_byte}
use Rattle.run_state.specs.State.{status_in}
use Rattle.run_state.specs.Inner.{state_refusal}
use Rattle.run_state.proofs.Passed.{has_room, well_formed, byte_is, shown_moves}
use Rattle.base.specs.Count.{num, count_below}
use Rattle.run_progress.specs.Progress.{counted_at, counted_child, children_counted}
use Rattle.run_progress.specs.declared.Tally.TheVariants as tallies
use Rattle.base.proofs.Count.{some_counted, counted_some, count_others}
use Rattle.run_enabled.specs.Enabling.{rival_at}
use Rattle.run_enabled.proofs.Marks.{up_or_here}

module _ (b s : List ℕ) (ok : state_refusal b s ≡ 0) where
  begins : (n : ℕ) → n < node_count b
      → Reflects (begun_b (plan_of b) (status_in b s) n) (Begun (plan_of b) (status_in b s) n)
  begins n l = r_begun (plan_of b) (well_formed b s ok) (status_in b s) n (is_node b n l)

  -- the begun branches of g but for n
  others : ℕ → ℕ → ℕ → Bool
  others g n j = not (eqb j n) && counted_child tallies.Begun b s g j

  counted : (g n : ℕ) → Child (plan_of b) g n
      → children_counted tallies.Begun b s g
      ≡ num (begun_b (plan_of b) (status_in b s) n) + count_below (node_count b) (others g n)
  unfolding children_counted counted_child counted_at others
  counted g n h =
      count_others (node_count b) (counted_child tallies.Begun b s g) n (node_is b n h.node)
      ∙ ap (λ (x : Bool). num (x && begun_b (plan_of b) (status_in b s) n) + count_below (node_count b) (others g n))
      (child_test b g n h)

  branch_to : (g n : ℕ) → Child (plan_of b) g n
      → num (begun_b (plan_of b) (status_in b s) n) < children_counted tallies.Begun b s g
      → Rival (plan_of b) (status_in b s) g n
  unfolding counted_child counted_at others
  branch_to g n h l =
      let w = counted_some (node_count b) (others g n) (λ z. omega (arith, counted g n h)) in
      let x = and_both (not (eqb w.0 n)) (is_child b g w.0 && begun_b (plan_of b) (status_in b s) w.0) w.2 in
      let y = and_both (is_child b g w.0) (begun_b (plan_of b) (status_in b s) w.0) x.1 in
      by_branch w.0 (is_child_lem b g w.0 y.0) (eqb-false w.0 n (not-true _ x.0))
      ((begins w.0 w.1).to (true_T _ y.1))

  parent_node : (g n : ℕ) → Child (plan_of b) g n → g < node_count b
  parent_node g n h = omega (arith, child_lt (plan_of b) (well_formed b s ok) h, node_is b n h.node)

  rival_to : (g n : ℕ) → Picks ((plan_of b).tree.kind g) → Child (plan_of b) g n
      → (node_byte s g ≡ 2) ⊎ (num (begun_b (plan_of b) (status_in b s) n) < children_counted tallies.Begun b s g)
      → Rival (plan_of b) (status_in b s) g n
  rival_to g n m h (inl z) = let d = (byte_is b s ok g (parent_node g n h) done).0 z in
      by_skip (picks_moves _ m (shown_moves b s ok g (done_moved d))) d
  rival_to g n m h (inr l) = branch_to g n h l

  rival_from : (g n : ℕ) → Child (plan_of b) g n → Rival (plan_of b) (status_in b s) g n
      → (node_byte s g ≡ 2) ⊎ (num (begun_b (plan_of b) (status_in b s) n) < children_counted tallies.Begun b s g)
  unfolding counted_child counted_at others
  rival_from g n h (by_skip k d) = inl ((byte_is b s ok g (parent_node g n h) done).1 d)
  rival_from g n h (by_branch c hc ne x) =
      let l = node_is b c hc.node in
      inr (omega (
        arith,
        counted g n h,
        some_counted (node_count b) (others g n) c l
            (and_of (not (eqb c n)) (is_child b g c && begun_b (plan_of b) (status_in b s) c) (rw (ne_eqb c n ne))
            (and_of (is_child b g c) (begun_b (plan_of b) (status_in b s) c) (child_test b g c hc)
            (T_true _ ((begins c l).from x)))),
      ))

  rival_at_lem : (g n : ℕ) → Picks ((plan_of b).tree.kind g) → Child (plan_of b) g n
      → Rival (plan_of b) (status_in b s) g n
      → rival_at b s g n ≡ true
  unfolding rival_at
  rival_at_lem g n x h r = rw no (at (rival_from g n h r))
    where
      no : is_kind b g 1 ≡ false
      no = not_passed _ (λ y. choice_kind (kind_of b g) (rw (plan_kind b g) at x) (kind_is b g 1 y).1)

      at : (node_byte s g ≡ 2) ⊎ (num (begun_b (plan_of b) (status_in b s) n) < children_counted tallies.Begun b s g)
          → (eqb (node_byte s g) 2
          || ltb (num (begun_b (plan_of b) (status_in b s) n)) (children_counted tallies.Begun b s g)) ≡ true
      at (inl z) = rw (eq-eqb (node_byte s g) 2 z)
      at (inr l) = rw (lt-ltb _ _ l) (or-true (eqb (node_byte s g) 2))

  -- the node n and its parent
  module _ (n g : ℕ) (z : 0 < n) (l : n < node_count b) (e : g ≡ parent_of b n) where
    child : Child (plan_of b) g n
    unfolding plan_of
    child = record { not_root = z; node = is_node b n l; up = sym e }

    any_group : is_kind b g 1 ≡ false → Picks ((plan_of b).tree.kind g)
    any_group y = rw (plan_kind b g) (kind_choice (kind_of b g)
        (λ q. group_is b g (rw (← e) at (parent_group b r.fits r.parents n z l).1) q)
        (other_kind b g 1 (parent_node g n child) y))
      where
        r : Clean b
        r = (has_room b s ok).plan

    pub rival_here : {t : ℕ} → Under (plan_of b) n t → rival_at b s g n ≡ true
        → BranchBegun (plan_of b) (status_in b s) t
    unfolding rival_at
    rival_here u y =
        let x = ltb (num (begun_b (plan_of b) (status_in b s) n)) (children_counted tallies.Begun b s g) in
        let w = and_both (not (is_kind b g 1)) (eqb (node_byte s g) 2 || x) y in
        let m = any_group (not-true _ w.0) in
        record {
          group = g;
          own = n;
          picks = m;
          own_child = child;
          above = u;
          rival = rival_to g n m child (⊎_elim (λ q. inl (eqb-true (node_byte s g) 2 q)) (λ q. inr (ltb-true _ _ q))
              (or_split (eqb (node_byte s g) 2) x w.1));
        }

    -- without a rival here, one is further up
    pub rival_up : rival_at b s g n ≡ false → BranchBegun (plan_of b) (status_in b s) n
        → BranchBegun (plan_of b) (status_in b s) g
    unfolding rival_at plan_of
    rival_up y x =
        ⊎_elim
        (λ (o : x.own ≡ n). absurd (true≢false
        (sym (rival_at_lem x.group x.own x.picks x.own_child x.rival) ∙ ap (rival_at b s x.group) o
        ∙ ap (λ (k : ℕ). rival_at b s k n) (sym x.own_child.up ∙ ap (parent_of b) o ∙ sym e) ∙ y)))
        (λ u. record {
          group = x.group;
          own = x.own;
          picks = x.picks;
          own_child = x.own_child;
          above = rw e u;
          rival = x.rival;
        })
        (up_or_here b x.above)

  pub none_at_root : BranchBegun (plan_of b) (status_in b s) 0 → ⊥
  none_at_root x = omega (arith, x.own_child.not_root, under_le (plan_of b) (well_formed b s ok) x.above)

  branches : (t : ℕ) → Reflects (branch_begun_b (plan_of b) (status_in b s) t)
      (BranchBegun (plan_of b) (status_in b s) t)
  branches t = r_branch_begun (plan_of b) (well_formed b s ok) (status_in b s) t

  pub begun_yes : (t : ℕ) → BranchBegun (plan_of b) (status_in b s) t
      → true ≡ branch_begun_b (plan_of b) (status_in b s) t
  begun_yes t x = sym (T_true _ ((branches t).from x))

  pub begun_no : (t : ℕ) → (BranchBegun (plan_of b) (status_in b s) t → ⊥)
      → false ≡ branch_begun_b (plan_of b) (status_in b s) t
  begun_no t h = sym (not_passed _ (λ y. h ((branches t).to (true_T _ y))))
