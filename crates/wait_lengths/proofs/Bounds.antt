-- No wait with its length is beyond the length of the root, and that is at most the sum of all minutes. Assumes
-- nothing.
use mathlib.Core.Path.{◌≡◌, refl, sym, ap, ◌∙◌}
use mathlib.Core.Logic.{◌⊎◌, inl, inr, ⊎_elim, by_cases}
use mathlib.Core.Bool.{Bool, true, false, cond, ◌&&◌, ◌||◌}
use mathlib.Core.List.{List}
use Prim.Native.Nat.{ℕ, zero, suc, ◌+◌, ◌-◌, ◌*◌, ◌<◌, ◌≤◌}
use native.Mathlib.Decide.{ℕ_discrete, dec_lt}
use native.Mathlib.Omega.{arith}
use lib.Dec.{eqb, ltb, leb}
use borrow.Author.Tests.{eq-eqb, ne_eqb, lt-ltb, le-ltb, ltb-false, le-leb, lt-leb}
use Rattle.plan_format.specs.Format.{node_count, parent_of, kind_of, minutes_of, earlier_of, is_kind, is_group}
use Rattle.plan_format.specs.Format.{is_choice}
use Rattle.plan_rules.specs.Rules.{is_child, bad_entry, cause6}
use Rattle.base.proofs.Booleans.{or_none, not_passed}
use Rattle.runs.proofs.Searches.{none_at}
use Rattle.plan_check.proofs.Accepted.{Clean}
use Rattle.plan_rules.proofs.Causes.{root_parent, parent_group}
use Rattle.plan_check.proofs.Meaning.{kind_is, kind_of_lem, kind_group, group_is, group_of}
use Rattle.wait_lengths.specs.Waits.{length_of, wait_within, waits_to, longest_wait}
use Rattle.wait_lengths.proofs.Greatest.{greatest_le, greatest_least}
use Rattle.wait_lengths.proofs.Lengths.{choice_is, choice_of, child_lower, earlier_child, length_task}
use Rattle.wait_lengths.proofs.Lengths.{length_any}
use Rattle.wait_lengths.proofs.Lengths.{length_all, waits_least}
use Rattle.wait_lengths.proofs.Sums.{sum, sum_grows, sum_le, sum_more, sum_has, sum_balance, sum_none, sum_one}
use Rattle.wait_lengths.proofs.Sums.{sum_same}

and-false : (a : Bool) → (a && false) ≡ false
and-false true = refl
and-false false = refl

module _ (b : List ℕ) (ok : Clean b) where
  -- ---- a child ends within its group
  pub group_kind : (g c : ℕ) → is_child b g c ≡ true → (kind_of b g ≡ 1) ⊎ (is_choice b g ≡ true)
  group_kind g c h =
      let w = child_lower b ok g c h in
      let p = (parent_group b ok.fits ok.parents c (omega arith) w.1).1 in
      let k = group_is b g (rw w.2 at p) in
      by_cases (ℕ_discrete (kind_of b g) 1) (λ (e : kind_of b g ≡ 1). inl e)
      (λ e. inr (choice_of b ok g (omega arith) (omega arith)))

  no_wait : (n : ℕ) → (is_kind b (parent_of b n) 1 ≡ true → ⊥) → wait_within b n ≡ 0
  unfolding wait_within
  no_wait n h = rw (not_passed (is_kind b (parent_of b n) 1) h)

  pub wait_any : (g c : ℕ) → is_child b g c ≡ true → is_choice b g ≡ true → wait_within b c ≡ 0
  wait_any g c h e = no_wait c (λ q. omega
      (arith, (choice_is b g e).1, (kind_is b (parent_of b c) 1 q).1, ap (kind_of b) (child_lower b ok g c h).2))

  pub wait_root : wait_within b 0 ≡ 0
  wait_root = no_wait 0 (λ q. omega
      (arith, (kind_is b (parent_of b 0) 1 q).0, root_parent b ok.fits ok.parents, ok.fits.limits.nodes))

  pub child_ends : (g c : ℕ) → is_child b g c ≡ true → wait_within b c + length_of b c ≤ length_of b g
  child_ends g c h =
      let w = child_lower b ok g c h in
      ⊎_elim
      (λ (e : kind_of b g ≡ 1). rw (length_all b ok g (omega arith) e)
      (greatest_le (is_child b g) (λ d. wait_within b d + length_of b d) (node_count b) c w.1 h))
      (λ (e : is_choice b g ≡ true).
      rw (wait_any g c h e, length_any b ok g (omega arith) e)
      (omega (arith, greatest_le (is_child b g) (length_of b) (node_count b) c w.1 h)))
      (group_kind g c h)

  -- ---- the longest waits by parents
  waits_enough : (k k' n : ℕ) → n < node_count b → n ≤ k → n ≤ k' → waits_to b k n ≡ waits_to b k' n
  unfolding waits_to
  waits_enough zero zero n l m m' = refl
  waits_enough zero (suc k') zero l m m' = refl
  waits_enough (suc k) zero zero l m m' = refl
  waits_enough (suc k) (suc k') zero l m m' = refl
  waits_enough zero (suc k') (suc n) l m m' = absurd (omega arith)
  waits_enough (suc k) zero (suc n) l m m' = absurd (omega arith)
  waits_enough (suc k) (suc k') (suc n) l m m' =
      let p = (parent_group b ok.fits ok.parents (suc n) (omega arith) l).0 in
      ap (λ (w : ℕ). w + wait_within b (suc n))
      (waits_enough k k' (parent_of b (suc n)) (omega arith) (omega arith) (omega arith))

  pub longest_root : longest_wait b 0 ≡ 0
  unfolding longest_wait waits_to
  longest_root = refl

  pub longest_child : (n : ℕ) → 0 < n → n < node_count b
      → longest_wait b n ≡ longest_wait b (parent_of b n) + wait_within b n
  unfolding longest_wait waits_to
  longest_child zero z l = absurd (omega arith)
  longest_child (suc n) z l =
      let p = (parent_group b ok.fits ok.parents (suc n) (omega arith) l).0 in
      ap (λ (w : ℕ). w + wait_within b (suc n))
      (waits_enough n (parent_of b (suc n)) (parent_of b (suc n)) (omega arith) (omega arith) (omega arith))

  -- every node is a child of its parent
  pub own_child : (n : ℕ) → 0 < n → n < node_count b → is_child b (parent_of b n) n ≡ true
  unfolding is_child
  own_child n z l = simp (lt-ltb 0 n z, lt-ltb n (node_count b) l, eq-eqb (parent_of b n) (parent_of b n) refl)

  ends_in : (k n : ℕ) → n < k → n < node_count b → longest_wait b n + length_of b n ≤ length_of b 0
  ends_in zero n m l = absurd (omega arith)
  ends_in (suc k) n m l =
      by_cases (ℕ_discrete n 0)
      (λ (e : n ≡ 0). rw e (omega (arith, longest_root)))
      (λ e.
      let p = (parent_group b ok.fits ok.parents n (omega arith) l).0 in
      omega (
        arith,
        ends_in k (parent_of b n) (omega arith) (omega arith),
        child_ends (parent_of b n) n (own_child n (omega arith) l),
        longest_child n (omega arith) l,
      ))

  pub ends : (n : ℕ) → n < node_count b → longest_wait b n + length_of b n ≤ length_of b 0
  ends n l = ends_in (suc n) n (omega arith) l

  -- ---- no length is beyond the node's minutes and its children's lengths together
  child_length : ℕ → ℕ → ℕ
  child_length g c = cond (is_child b g c) (length_of b c) 0

  child_length_lem : (g c : ℕ) → is_child b g c ≡ true → child_length g c ≡ length_of b c
  unfolding child_length
  child_length_lem g c h = rw h

  other_length : (g c : ℕ) → (is_child b g c ≡ true → ⊥) → child_length g c ≡ 0
  unfolding child_length
  other_length g c h = rw (not_passed (is_child b g c) h)

  wait_sum : (k g c : ℕ) → c < k → is_child b g c ≡ true → kind_of b g ≡ 1 → wait_within b c ≤ sum c (child_length g)
  wait_sum zero g c l h e = absurd (omega arith)
  wait_sum (suc k) g c l h e = waits_least b ok g c (sum c (child_length g)) h e (λ j m q.
      let x = earlier_child b ok g c j m q h in
      omega (
        arith,
        wait_sum k g (earlier_of b j) (omega arith) x.1 e,
        child_length_lem g (earlier_of b j) x.1,
        sum_more (earlier_of b j) (child_length g),
        sum_grows (child_length g) (suc (earlier_of b j)) c x.0,
      ))

  length_sum : (n : ℕ) → n < node_count b → length_of b n ≤ minutes_of b n + sum (node_count b) (child_length n)
  length_sum n l =
      by_cases (ℕ_discrete (kind_of b n) 0) (λ (e : kind_of b n ≡ 0). omega (arith, length_task b ok n l e))
      (λ z.
      by_cases (ℕ_discrete (kind_of b n) 1)
      (λ (e : kind_of b n ≡ 1). rw (length_all b ok n l e)
      (greatest_least (is_child b n) (λ c. wait_within b c + length_of b c) (node_count b) _ (λ c m h.
      omega (
        arith,
        wait_sum (suc c) n c (omega arith) h e,
        child_length_lem n c h,
        sum_more c (child_length n),
        sum_grows (child_length n) (suc c) (node_count b) m,
      ))))
      (λ y. rw (length_any b ok n l (choice_of b ok n l (omega arith)))
      (greatest_least (is_child b n) (length_of b) (node_count b) _ (λ c m h.
      omega (arith, child_length_lem n c h, sum_has (node_count b) c (child_length n) m)))))

  -- ---- so the lengths of the nodes from k on whose parents are below k, with the minutes of the nodes below k, do not
  -- fall as k rises
  open_length : ℕ → ℕ → ℕ
  open_length k c = cond (leb k c && ltb (parent_of b c) k) (length_of b c) 0

  open_from : (k c : ℕ) → k ≤ c → parent_of b c < k → open_length k c ≡ length_of b c
  unfolding open_length
  open_from k c l m = rw (le-leb k c l, lt-ltb (parent_of b c) k m)

  open_below : (k c : ℕ) → c < k → open_length k c ≡ 0
  unfolding open_length
  open_below k c l = rw (lt-leb k c l)

  open_within : (k c : ℕ) → k ≤ parent_of b c → open_length k c ≡ 0
  unfolding open_length
  open_within k c l = rw (le-ltb (parent_of b c) k l, and-false (leb k c))

  -- the length of k alone
  only : ℕ → ℕ → ℕ
  only k c = cond (eqb c k) (length_of b c) 0

  only_is : (k : ℕ) → only k k ≡ length_of b k
  unfolding only
  only_is k = rw (eq-eqb k k refl)

  only_other : (k c : ℕ) → (c ≡ k → ⊥) → only k c ≡ 0
  unfolding only
  only_other k c h = rw (ne_eqb c k h)

  balance : (k : ℕ) → 0 < k → k < node_count b → (c : ℕ) → c < node_count b
      → open_length k c + child_length k c ≡ open_length (suc k) c + only k c
  balance k z l c m =
      by_cases (ℕ_discrete c k)
      (λ (e : c ≡ k).
      let p = (parent_group b ok.fits ok.parents k z l).0 in
      rw e (omega (
        arith,
        open_from k k (omega arith) p,
        other_length k k (λ h. omega (arith, child_lower b ok k k h)),
        open_below (suc k) k (omega arith),
        only_is k,
      )))
      (λ ne.
      by_cases (dec_lt c k)
      (λ (q : c < k).
      omega (
        arith,
        open_below k c q,
        other_length k c (λ h. omega (arith, child_lower b ok k c h)),
        open_below (suc k) c (omega arith),
        only_other k c ne,
      ))
      (λ q.
      by_cases (ℕ_discrete (parent_of b c) k)
      (λ (e : parent_of b c ≡ k).
      omega (
        arith,
        open_within k c (omega arith),
        child_length_lem k c (rw e at (own_child c (omega arith) m)),
        open_from (suc k) c (omega arith) (omega arith),
        only_other k c ne,
      ))
      (λ e.
      let o : child_length k c ≡ 0 = other_length k c (λ h. e (child_lower b ok k c h).2) in
      by_cases (dec_lt (parent_of b c) k)
      (λ (y : parent_of b c < k). omega
      (arith, open_from k c (omega arith) y, open_from (suc k) c (omega arith) (omega arith), only_other k c ne))
      (λ y. omega (arith, open_within k c (omega arith), open_within (suc k) c (omega arith), only_other k c ne)))))

  -- ---- the sum
  reach : ℕ → ℕ
  reach k = sum k (minutes_of b) + sum (node_count b) (open_length k)

  reach_step : (k : ℕ) → 0 < k → k < node_count b → reach k ≤ reach (suc k)
  unfolding reach
  reach_step k z l =
      omega (
        arith,
        sum_balance (node_count b) (open_length k) (child_length k) (open_length (suc k)) (only k) (balance k z l),
        sum_one (node_count b) k (only k) l (λ i m. only_other k i),
        only_is k,
        length_sum k l,
        sum_more k (minutes_of b),
      )

  reach_all : (d k : ℕ) → 0 < k → k + d ≡ node_count b → reach k ≤ reach (node_count b)
  reach_all zero k z e = let q : k ≡ node_count b = omega arith in rw q (omega arith)
  reach_all (suc d) k z e = omega (arith, reach_step k z (omega arith), reach_all d (suc k) (omega arith) (omega arith))

  minutes_limit : (n : ℕ) → n < node_count b → minutes_of b n ≤ 10080
  unfolding cause6 bad_entry
  minutes_limit n l =
      let w = or_none (ltb 3 (kind_of b n) || (is_group b n && ltb 0 (minutes_of b n)))
      (is_kind b n 0 && ltb 10080 (minutes_of b n)) (none_at (node_count b) (bad_entry b) ok.entries n l) in
      let u = (or_none (ltb 3 (kind_of b n)) (is_group b n && ltb 0 (minutes_of b n)) w.0).1 in
      by_cases (ℕ_discrete (kind_of b n) 0)
      (λ (e : kind_of b n ≡ 0). ltb-false 10080 (minutes_of b n) (rw (kind_of_lem b n 0 l e) at w.1))
      (λ e. omega (arith, ltb-false 0 (minutes_of b n) (rw (group_of b ok n l (kind_group (kind_of b n) e)) at u)))

  -- at the root
  open_root : (c : ℕ) → c < node_count b → open_length 1 c ≡ child_length 0 c
  open_root c l =
      by_cases (ℕ_discrete c 0)
      (λ (e : c ≡ 0). rw e (open_below 1 0 (omega arith)
      ∙ sym (other_length 0 0 (λ h. omega (arith, child_lower b ok 0 0 h)))))
      (λ ne.
      by_cases (ℕ_discrete (parent_of b c) 0)
      (λ (e : parent_of b c ≡ 0). open_from 1 c (omega arith) (omega arith)
      ∙ sym (child_length_lem 0 c (rw e at (own_child c (omega arith) l))))
      (λ e. open_within 1 c (omega arith) ∙ sym (other_length 0 c (λ h. e (child_lower b ok 0 c h).2))))

  pub root_length : length_of b 0 ≤ node_count b * 10080
  unfolding reach
  root_length =
      let n = ok.fits.limits.some_node in
      omega (
        arith,
        length_sum 0 (omega arith),
        sum_same (node_count b) (open_length 1) (child_length 0) open_root,
        sum_more 0 (minutes_of b),
        reach_all (node_count b - 1) 1 (omega arith) (omega arith),
        sum_none (node_count b) (open_length (node_count b)) (λ i l. open_below (node_count b) i l),
        sum_le (node_count b) (minutes_of b) minutes_limit,
      )

  -- nothing is beyond 128 times the longest task
  pub end_limit : (n : ℕ) → n < node_count b → longest_wait b n + length_of b n ≤ 1290240
  end_limit n l = omega (arith, ends n l, root_length, ok.fits.limits.nodes)

  pub child_limit : (g c : ℕ) → is_child b g c ≡ true → wait_within b c + length_of b c ≤ 1290240
  child_limit g c h = let w = child_lower b ok g c h in omega (arith, child_ends g c h, end_limit g (omega arith))
