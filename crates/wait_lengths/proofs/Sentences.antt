-- The lengths and waits of an accepted plan satisfy 01's sentences, and no others do. Assumes nothing.
use mathlib.Core.Path.{◌≡◌, refl, sym, ap, ◌∙◌}
use mathlib.Core.Logic.{◌≢◌, ◌⊎◌, inl, inr, ⊎_elim, by_cases}
use mathlib.Core.Bool.{Bool, true, false, true≢false}
use mathlib.Core.List.{List}
use Prim.Native.Nat.{ℕ, zero, suc, ◌+◌, ◌<◌, ◌≤◌}
use native.Mathlib.Decide.{ℕ_discrete, dec_lt}
use native.Mathlib.Omega.{arith}
use lib.Dec.{eqb}
use borrow.Author.Tests.{eqb-true, eq-eqb}
use Rattle.plan_format.specs.Format.{node_count, order_count, parent_of, kind_of, earlier_of, later_of, is_kind}
use Rattle.plan_format.specs.Format.{is_choice}
use Rattle.plan_rules.specs.Rules.{is_child}
use Rattle.runs.specs.Searches.{any_below}
use Rattle.base.proofs.Booleans.{either}
use Rattle.runs.proofs.Searches.{found_at, none_at}
use Rattle.plan_check.proofs.Accepted.{Clean}
use Rattle.plan_check.proofs.Meaning.{kind_is, kind_of_lem, kind_group, group_of, child_of}
use Rattle.wait_lengths.specs.Waits.{greatest, length_of, wait_within, longest_wait}
use Rattle.wait_lengths.specs.Sentences.{Greatest, ChildIn, OrderInto, Times}
use Rattle.wait_lengths.proofs.Greatest.{greatest_empty, greatest_le}
use Rattle.wait_lengths.proofs.Lengths.{choice_is, choice_of, child_lower, earlier_child, length_task}
use Rattle.wait_lengths.proofs.Lengths.{length_any}
use Rattle.wait_lengths.proofs.Lengths.{length_all, wait_all}
use Rattle.wait_lengths.proofs.Bounds.{group_kind, wait_any, wait_root, longest_root, longest_child, own_child}

-- ---- the computed greatest is the greatest
module _ (p : ℕ → Bool) (f : ℕ → ℕ) where
  -- v is the value of one below n that passes
  abbrev Has : ℕ → ℕ → Type 0
  Has n v = (i : ℕ) × (i < n) × (p i ≡ true) × (f i ≡ v)

  zero_or_has : (n : ℕ) → (greatest n p f ≡ 0) ⊎ Has n (greatest n p f)
  unfolding greatest
  zero_or_has zero = inl refl
  zero_or_has (suc n) = ⊎_elim
      (λ (e : p n ≡ true).
      rw e
      (by_cases (dec_lt (f n) (greatest n p f))
      (λ (l : f n < greatest n p f).
      ⊎_elim
      (λ (z : greatest n p f ≡ 0). absurd (omega arith))
      (λ (w : Has n (greatest n p f)). inr (w.0, omega arith, w.2, omega (arith, w.3)))
      (zero_or_has n))
      (λ l. inr (n, omega arith, e, omega arith))))
      (λ (e : p n ≡ false).
      rw e
      (⊎_elim
      (λ (z : greatest n p f ≡ 0). inl z)
      (λ (w : Has n (greatest n p f)). inr (w.0, omega arith, w.2, w.3))
      (zero_or_has n)))
      (either (p n))

  has_greatest : (n i : ℕ) → i < n → p i ≡ true → Has n (greatest n p f)
  has_greatest n i l e =
      ⊎_elim
      (λ (z : greatest n p f ≡ 0). (i, l, e, omega (arith, greatest_le p f n i l e)))
      (λ (w : Has n (greatest n p f)). w)
      (zero_or_has n)

module _ (b : List ℕ) (ok : Clean b) where
  -- over the children of a group
  over_children : (g : ℕ) (f : ℕ → ℕ) → g < node_count b → kind_of b g ≢ 0
      → Greatest (ChildIn b g) f (greatest (node_count b) (is_child b g) f)
  over_children g f l k =
      let w = child_of b ok g l (group_of b ok g l (kind_group (kind_of b g) k)) in
      let h : is_child b g w.0 ≡ true = rw w.3 at (own_child b ok w.0 w.1 w.2) in
      let r = has_greatest (is_child b g) f (node_count b) w.0 w.2 h in
      record {
        bound = λ c q. greatest_le (is_child b g) f (node_count b) c (child_lower b ok g c q).1 q;
        attained = (r.0, r.2, r.3);
      }

  -- the orders into a node
  into : ℕ → ℕ → Bool
  into c j = eqb (later_of b j) c

  -- over them
  over_orders : (c j : ℕ) (f : ℕ → ℕ) → OrderInto b c j
      → Greatest (OrderInto b c) f (greatest (order_count b) (into c) f)
  unfolding into
  over_orders c j f o =
      let r = has_greatest (into c) f (order_count b) j o.0 (eq-eqb _ _ o.1) in
      record {
        bound = λ i q. greatest_le (into c) f (order_count b) i q.0 (eq-eqb _ _ q.1);
        attained = (r.0, (r.1, eqb-true _ _ r.2), r.3);
      }

  pub times : Times b (length_of b) (wait_within b) (longest_wait b)
  unfolding into
  times = record {
    task = λ n k. let w = kind_is b n 0 k in length_task b ok n w.0 w.1;
    choice = λ g k. let w = choice_is b g k in
        rw (length_any b ok g w.0 k) (over_children g (length_of b) w.0 (omega (arith, w.1)));
    all_of = λ g k. let w = kind_is b g 1 k in
        rw (length_all b ok g w.0 w.1)
        (over_children g (λ c. wait_within b c + length_of b c) w.0 (omega (arith, w.1)));
    unordered = λ g c k h n.
        wait_all b ok g c h (kind_is b g 1 k).1
        ∙ greatest_empty (into c) (λ j. wait_within b (earlier_of b j) + length_of b (earlier_of b j)) (order_count b)
        (λ j l. ⊎_elim
        (λ (e : into c j ≡ true). absurd (n j (l, eqb-true _ _ e)))
        (λ (e : into c j ≡ false). e)
        (either (into c j)));
    ordered = λ g c j k h o. rw (wait_all b ok g c h (kind_is b g 1 k).1)
        (over_orders c j (λ i. wait_within b (earlier_of b i) + length_of b (earlier_of b i)) o);
    in_choice = λ g c k h. wait_any b ok g c h k;
    root = wait_root b ok;
    longest_root = longest_root b ok ∙ sym (wait_root b ok);
    longest_child = λ g c h.
        let w = child_lower b ok g c h in
        longest_child b ok c (omega arith) w.1 ∙ ap (λ (x : ℕ). longest_wait b x + wait_within b c) w.2;
  }

-- ---- the sentences leave nothing free
greatest_one : {P : ℕ → Type 0} {f f' : ℕ → ℕ} {v v' : ℕ} → ((i : ℕ) → P i → f i ≡ f' i) → Greatest P f v
    → Greatest P f' v' → v ≡ v'
greatest_one h g g' =
    let x = g.attained in
    let y = g'.attained in
    omega (arith, x.2, h x.0 x.1, g'.bound x.0 x.1, y.2, h y.0 y.1, g.bound y.0 y.1)

module _ {b : List ℕ} (ok : Clean b) {len wait longest len' wait' longest' : ℕ → ℕ} (t : Times b len wait longest)
    (t' : Times b len' wait' longest') where
  -- the wait of a child of an all_of group, from the lengths of the children
  wait_in : (k g c : ℕ) → c < k → is_kind b g 1 ≡ true → ChildIn b g c → ((d : ℕ) → ChildIn b g d → len d ≡ len' d)
      → wait c ≡ wait' c
  wait_in zero g c l a h e = absurd (omega arith)
  wait_in (suc k) g c l a h e = ⊎_elim
      (λ (y : any_below (order_count b) (λ j. eqb (later_of b j) c) ≡ true).
      let w = found_at (order_count b) (λ j. eqb (later_of b j) c) y in
      let o : OrderInto b c w.0 = (w.1, eqb-true _ _ w.2) in
      greatest_one
      (λ i q.
      let x = earlier_child b ok g c i q.0 q.1 h in
      omega (arith, wait_in k g (earlier_of b i) (omega arith) a x.1 e, e (earlier_of b i) x.1))
      (t.ordered g c w.0 a h o)
      (t'.ordered g c w.0 a h o))
      (λ (y : any_below (order_count b) (λ j. eqb (later_of b j) c) ≡ false).
      let n : (j : ℕ) → OrderInto b c j
      → ⊥ = λ j q. true≢false (sym (eq-eqb _ _ q.1)
      ∙ none_at (order_count b) (λ i. eqb (later_of b i) c) y j q.0) in
      t.unordered g c a h n ∙ sym (t'.unordered g c a h n))
      (either (any_below (order_count b) (λ j. eqb (later_of b j) c)))

  length_in : (k n : ℕ) → n < node_count b → node_count b ≤ k + n → len n ≡ len' n
  length_in zero n l m = absurd (omega arith)
  length_in (suc k) n l m =
      let e : (c : ℕ) → ChildIn b n c → len c ≡ len' c = λ c h. let w = child_lower b ok n c h in
      length_in k c w.1 (omega arith) in
      by_cases (ℕ_discrete (kind_of b n) 0)
      (λ (q : kind_of b n ≡ 0). let a = kind_of_lem b n 0 l q in t.task n a ∙ sym (t'.task n a))
      (λ z.
      by_cases (ℕ_discrete (kind_of b n) 1)
      (λ (q : kind_of b n ≡ 1).
      let a = kind_of_lem b n 1 l q in
      greatest_one (λ c h. omega (arith, wait_in (suc c) n c (omega arith) a h e, e c h)) (t.all_of n a)
      (t'.all_of n a))
      (λ q. let a = choice_of b ok n l (omega arith) in greatest_one e (t.choice n a) (t'.choice n a)))

  pub length_one : (n : ℕ) → n < node_count b → len n ≡ len' n
  length_one n l = length_in (node_count b) n l (omega arith)

  wait_child : (g c : ℕ) → ChildIn b g c → wait c ≡ wait' c
  wait_child g c h =
      let w = child_lower b ok g c h in
      ⊎_elim
      (λ (q : kind_of b g ≡ 1). wait_in (suc c) g c (omega arith) (kind_of_lem b g 1 (omega arith) q) h
      (λ d y. length_one d (child_lower b ok g d y).1))
      (λ (a : is_choice b g ≡ true). t.in_choice g c a h ∙ sym (t'.in_choice g c a h))
      (group_kind b ok g c h)

  longest_in : (k n : ℕ) → n < k → n < node_count b → longest n ≡ longest' n
  longest_in zero n m l = absurd (omega arith)
  longest_in (suc k) n m l =
      by_cases (ℕ_discrete n 0)
      (λ (e : n ≡ 0). rw e (omega (arith, t.longest_root, t.root, t'.longest_root, t'.root)))
      (λ e.
      let h = own_child b ok n (omega arith) l in
      let p = (child_lower b ok (parent_of b n) n h).0 in
      omega (
        arith,
        t.longest_child _ n h,
        t'.longest_child _ n h,
        wait_child _ n h,
        longest_in k (parent_of b n) (omega arith) (omega arith),
      ))

  pub longest_one : (n : ℕ) → n < node_count b → longest n ≡ longest' n
  longest_one n l = longest_in (suc n) n (omega arith) l
