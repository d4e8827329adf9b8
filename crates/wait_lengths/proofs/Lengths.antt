-- Lengths and waits of an accepted plan satisfy 01's sentences: enough levels and orders are followed. Assumes nothing.
use mathlib.Core.Path.{◌≡◌, refl, sym, ap, ◌∙◌}
use mathlib.Core.Logic.{⊎_elim, by_cases}
use mathlib.Core.Bool.{true, or-true}
use mathlib.Core.List.{List}
use Prim.Native.Nat.{ℕ, zero, suc, ◌+◌, ◌<◌, ◌≤◌}
use native.Mathlib.Decide.{ℕ_discrete}
use native.Mathlib.Omega.{arith}
use lib.Dec.{eqb}
use borrow.Author.Tests.{eqb-true, eq-eqb}
use Rattle.plan_format.specs.Format.{node_count, order_count, parent_of, kind_of, minutes_of, earlier_of, later_of}
use Rattle.plan_format.specs.Format.{is_kind}
use Rattle.plan_format.specs.Format.{is_choice}
use Rattle.plan_rules.specs.Rules.{is_child, bad_order, cause13}
use Rattle.base.proofs.Booleans.{or_split}
use Rattle.runs.proofs.Searches.{none_at}
use Rattle.runs.specs.Plan.{Kind, task, all_of, any_of, optional}
use Rattle.plan_check.specs.Meaning.{kind_at}
use Rattle.plan_check.proofs.Accepted.{Clean}
use Rattle.plan_rules.proofs.Causes.{parent_group}
use Rattle.plan_check.proofs.Meaning.{child_is, siblings, kind_task, kind_all_of, kind_is, kind_of_lem, kind_limit}
use Rattle.plan_check.proofs.Nodes.{kind_any_of, kind_optional}
use Rattle.wait_lengths.specs.Waits.{greatest, wait_by, length_as, length_by, length_of, wait_within}
use Rattle.wait_lengths.proofs.Greatest.{greatest_same, greatest_le, greatest_least}

-- an order's nodes: children of one all_of group, the earlier with the lower number
pub record Ordered (b : List ℕ) (j : ℕ) : Type 0 where
  pub lower : earlier_of b j < later_of b j
  pub all : kind_of b (parent_of b (earlier_of b j)) ≡ 1
  pub earlier : is_child b (parent_of b (earlier_of b j)) (earlier_of b j) ≡ true
  pub later : is_child b (parent_of b (earlier_of b j)) (later_of b j) ≡ true

-- an any_of or optional group by the number of its kind
pub choice_is : (b : List ℕ) (n : ℕ) → is_choice b n ≡ true → (n < node_count b) × (2 ≤ kind_of b n)
unfolding is_choice
choice_is b n h = ⊎_elim (λ x. omega (arith, kind_is b n 2 x)) (λ x. omega (arith, kind_is b n 3 x))
    (or_split (is_kind b n 2) (is_kind b n 3) h)

module _ (b : List ℕ) (ok : Clean b) where
  pub choice_of : (n : ℕ) → n < node_count b → 2 ≤ kind_of b n → is_choice b n ≡ true
  unfolding is_choice
  choice_of n l m =
      by_cases (ℕ_discrete (kind_of b n) 2) (λ (e : kind_of b n ≡ 2). rw (kind_of_lem b n 2 l e))
      (λ e. rw (kind_of_lem b n 3 l (omega (arith, kind_limit b ok n l))) (or-true (is_kind b n 2)))

  pub child_lower : (g c : ℕ) → is_child b g c ≡ true → (g < c) × (c < node_count b) × (parent_of b c ≡ g)
  child_lower g c h =
      let w = child_is b g c h in
      let p = (parent_group b ok.fits ok.parents c w.0 w.1).0 in
      (omega arith, w.1, w.2)

  pub ordered : (j : ℕ) → j < order_count b → Ordered b j
  unfolding cause13 bad_order
  ordered j l =
      let s = siblings b ok (earlier_of b j) (later_of b j) (none_at (order_count b) (bad_order b) ok.orders j l) in
      record { lower = s.0; all = s.1; earlier = s.2; later = s.3 }

  -- the earlier node of an order into a child of g is a child of g
  pub earlier_child : (g c j : ℕ) → j < order_count b → later_of b j ≡ c → is_child b g c ≡ true
      → (earlier_of b j < c) × (is_child b g (earlier_of b j) ≡ true)
  earlier_child g c j l e h =
      let o = ordered j l in
      let p = (child_lower _ _ o.later).2 in
      let q = (child_lower g c h).2 in
      let z : parent_of b (earlier_of b j) ≡ g = sym p ∙ ap (parent_of b) e ∙ q in
      (omega (arith, o.lower, e), rw z at o.earlier)

  -- the lengths matter only at the children of the group
  wait_same : (len len' : ℕ → ℕ) (g : ℕ) → ((e : ℕ) → is_child b g e ≡ true → len e ≡ len' e) → (k c : ℕ)
      → is_child b g c ≡ true → wait_by b len k c ≡ wait_by b len' k c
  unfolding wait_by
  wait_same len len' g h zero c hc = refl
  wait_same len len' g h (suc k) c hc = greatest_same (order_count b) _ _ _ (λ j l e.
      let x = (earlier_child g c j l (eqb-true (later_of b j) c e) hc).1 in
      rw (wait_same len len' g h k (earlier_of b j) x, h (earlier_of b j) x))

  wait_enough : (len : ℕ → ℕ) (k k' c : ℕ) → c < k → c < k' → wait_by b len k c ≡ wait_by b len k' c
  unfolding wait_by
  wait_enough len zero k' c l l' = absurd (omega arith)
  wait_enough len (suc k) zero c l l' = absurd (omega arith)
  wait_enough len (suc k) (suc k') c l l' = greatest_same (order_count b) _ _ _ (λ j m e.
      let o = ordered j m in
      let x = eqb-true (later_of b j) c e in
      ap (λ (w : ℕ). w + len (earlier_of b j))
      (wait_enough len k k' (earlier_of b j) (omega (arith, o.lower)) (omega (arith, o.lower))))

  length_same : (len len' : ℕ → ℕ) (n : ℕ) → ((c : ℕ) → is_child b n c ≡ true → len c ≡ len' c) → (κ : Kind)
      → length_as b len κ n ≡ length_as b len' κ n
  unfolding length_as
  length_same len len' n h task = refl
  length_same len len' n h any_of = greatest_same (node_count b) _ _ _ (λ c l e. h c e)
  length_same len len' n h optional = greatest_same (node_count b) _ _ _ (λ c l e. h c e)
  length_same len len' n h all_of =
      greatest_same (node_count b) _ _ _ (λ c l e. rw (wait_same len len' n h (node_count b) c e, h c e))

  length_enough : (k k' n : ℕ) → n < node_count b → node_count b ≤ k + n → node_count b ≤ k' + n
      → length_by b k n ≡ length_by b k' n
  unfolding length_by
  length_enough zero k' n l m m' = absurd (omega arith)
  length_enough (suc k) zero n l m m' = absurd (omega arith)
  length_enough (suc k) (suc k') n l m m' = length_same (length_by b k) (length_by b k') n (λ c e.
      let w = child_lower n c e in length_enough k k' c w.1 (omega arith) (omega arith)) (kind_at (kind_of b n))

  length_fewer : (k n : ℕ) → node_count b ≡ k → n < node_count b
      → length_by b k n ≡ length_as b (length_by b k) (kind_at (kind_of b n)) n
  unfolding length_by
  length_fewer zero n e l = absurd (omega arith)
  length_fewer (suc k) n e l = length_same (length_by b k) (length_by b (suc k)) n (λ c h.
      let w = child_lower n c h in length_enough k (suc k) c w.1 (omega arith) (omega arith)) (kind_at (kind_of b n))

  length_is : (n : ℕ) → n < node_count b → length_of b n ≡ length_as b (length_of b) (kind_at (kind_of b n)) n
  unfolding length_of
  length_is n l = length_fewer (node_count b) n refl l

  -- the wait of a child of an all_of group
  within_all : (n : ℕ) → parent_of b n < node_count b → kind_of b (parent_of b n) ≡ 1
      → wait_within b n ≡ wait_by b (length_of b) (node_count b) n
  unfolding wait_within
  within_all n l e = rw (kind_of_lem b (parent_of b n) 1 l e)

  module _ (n : ℕ) (l : n < node_count b) where
    -- the length of a task: its minutes
    pub length_task : kind_of b n ≡ 0 → length_of b n ≡ minutes_of b n
    unfolding length_as
    length_task e = length_is n l ∙ rw (kind_task (kind_of b n) e)

    -- any_of and optional: its longest child
    pub length_any : is_choice b n ≡ true → length_of b n ≡ greatest (node_count b) (is_child b n) (length_of b)
    unfolding length_as
    length_any h = length_is n l ∙ by_cases (ℕ_discrete (kind_of b n) 2)
        (λ (e : kind_of b n ≡ 2). rw (kind_any_of (kind_of b n) e))
        (λ e. rw (kind_optional (kind_of b n) (omega (arith, (choice_is b n h).1, kind_limit b ok n l))))

    -- all_of: the greatest wait within it plus length over its children
    pub length_all : kind_of b n ≡ 1
        → length_of b n ≡ greatest (node_count b) (is_child b n) (λ c. wait_within b c + length_of b c)
    unfolding length_as
    length_all e = length_is n l ∙ rw (kind_all_of (kind_of b n) e) (greatest_same (node_count b) _ _ _ (λ c m h.
        let w = child_lower n c h in
        ap (λ (x : ℕ). x + length_of b c) (sym (within_all c (omega (arith, w.2)) (ap (kind_of b) w.2 ∙ e)))))

  -- a child's wait within an all_of group: 0, or the greatest wait plus length among its orders' earlier nodes
  pub wait_all : (g c : ℕ) → is_child b g c ≡ true → kind_of b g ≡ 1
      → wait_within b c ≡ greatest (order_count b) (λ j. eqb (later_of b j) c)
      (λ j. wait_within b (earlier_of b j) + length_of b (earlier_of b j))
  unfolding wait_by
  wait_all g c h e =
      let w = child_lower g c h in
      within_all c (omega (arith, w.2)) (ap (kind_of b) w.2 ∙ e)
      ∙ wait_enough (length_of b) (node_count b) (suc (node_count b)) c w.1 (omega arith)
      ∙ greatest_same (order_count b) _ _ _ (λ j l q.
      let x = child_lower g _ (earlier_child g c j l (eqb-true (later_of b j) c q) h).1 in
      ap (λ (v : ℕ). v + length_of b (earlier_of b j))
      (sym (within_all (earlier_of b j) (omega (arith, x.2)) (ap (kind_of b) x.2 ∙ e))))

  -- so an order's later node waits for the earlier one, and no longer than its orders ask
  pub order_waits : (j : ℕ) → j < order_count b
      → wait_within b (earlier_of b j) + length_of b (earlier_of b j) ≤ wait_within b (later_of b j)
  order_waits j l =
      let o = ordered j l in
      rw (wait_all _ (later_of b j) o.later o.all)
      (greatest_le (λ i. eqb (later_of b i) (later_of b j))
      (λ i. wait_within b (earlier_of b i) + length_of b (earlier_of b i)) (order_count b) j l
      (eq-eqb (later_of b j) (later_of b j) refl))

  pub waits_least : (g c v : ℕ) → is_child b g c ≡ true → kind_of b g ≡ 1
      → ((j : ℕ) → j < order_count b → later_of b j ≡ c
      → wait_within b (earlier_of b j) + length_of b (earlier_of b j) ≤ v)
      → wait_within b c ≤ v
  waits_least g c v h e f =
      rw (wait_all g c h e)
      (greatest_least (λ i. eqb (later_of b i) c) (λ i. wait_within b (earlier_of b i) + length_of b (earlier_of b i))
      (order_count b) v (λ j l q. f j l (eqb-true (later_of b j) c q)))
