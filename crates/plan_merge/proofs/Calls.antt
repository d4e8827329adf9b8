-- What the call answers and leaves, computed, is what 02 says (`merges`). Assumes nothing.
use mathlib.Core.Path.{◌≡◌, refl, sym, ap, ◌∙◌}
use mathlib.Core.Logic.{◌≢◌, ◌⊎◌, inl, inr, ◌↔◌, ⊎_elim, by_cases}
use mathlib.Core.Bool.{Bool, beq, true, false, not, cond, ◌||◌}
use mathlib.Core.List.{List}
use Prim.Native.Nat.{ℕ, zero, suc, ◌<◌, ◌≤◌, min}
use native.Mathlib.Decide.{ℕ_discrete}
use native.Mathlib.Omega.{arith}
use lib.Dec.{eqb, ltb}
use lib.ListN.{length, take}
use borrow.Author.Tests.{ne_eqb, lt-ltb, le-ltb, ltb-true, ltb-false}
use Rattle.base.specs.Answers.{refused_or}
use Rattle.base.proofs.Booleans.{or_split, or_none, not_passed, passed_not, beq_other}
use Rattle.base.proofs.First.{first_none, first_some, both_none, check_passed, answer_some, refused_not}
use Rattle.base.proofs.First.{same_refusal, same_given}
use Rattle.base.proofs.Overlay.{length_overlay, past_overlay}
use Rattle.runs.proofs.Searches.{found_at}
use Rattle.plan_format.specs.Format.{flag_count, start_flag}
use Rattle.plan_rules.specs.Rules.{refusal}
use Rattle.plan_check.specs.Meaning.{plan_of, start_of}
use Rattle.runs.specs.Verdict.{Clear}
use Rattle.merges.specs.Collisions.{BothClear}
use Rattle.plan_layout.specs.declared.Sizes.{Sizes}
use Rattle.plan_layout.specs.Layout.{plan_length}
use Rattle.plan_layout.specs.Fields.{byte_at, laid_bytes}
use Rattle.plan_layout.proofs.Sections.{laid_in, laid_bytes_lem}
use Rattle.plan_merge.specs.Sentences.{IsMerged}
use Rattle.plan_merge.specs.Model.{merged_sizes, merged_fields, refused33, refused34, pair_refusal, merge_refusal}
use Rattle.plan_merge.specs.Model.{merge_answer, with_merged, merge_left}
use Rattle.plan_merge.specs.Inner.{Mergeable}
use Rattle.plan_merge.specs.Calls.{BothPass, OverLimit, by_nodes, by_conditions, by_orders, StartsApart}
use Rattle.plan_merge.specs.Calls.{MergedLonger, MergeRefused, first_refused, second_refused, too_large}
use Rattle.plan_merge.specs.Calls.{starts_apart, too_short, Merges}
use Rattle.plan_merge.proofs.Sentences.{alike, is_merged}
use Rattle.plan_merge.proofs.Counts.{merged_long}
use Rattle.plan_merge.proofs.Meaning.{clear_exactly}

module _ (b c : List ℕ) where
  -- ---- 33 and 34
  over_limit : refused33 b c ≡ true → OverLimit b c
  unfolding refused33
  over_limit h =
      let s = merged_sizes b c in
      ⊎_elim (λ x. ⊎_elim (λ y. by_nodes (omega (arith, ltb-true 128 s.nodes y)))
      (λ y. by_conditions (omega (arith, ltb-true 1024 s.conditions y)))
      (or_split (ltb 128 s.nodes) (ltb 1024 s.conditions) x))
      (λ x. by_orders (omega (arith, ltb-true 512 s.orders x)))
      (or_split (ltb 128 s.nodes || ltb 1024 s.conditions) (ltb 512 s.orders) h)

  not_over : refused33 b c ≡ false → ¬ OverLimit b c
  unfolding refused33
  not_over h p =
      let s = merged_sizes b c in
      let (x, y) = or_none (ltb 128 s.nodes || ltb 1024 s.conditions) (ltb 512 s.orders) h in
      let (u, v) = or_none (ltb 128 s.nodes) (ltb 1024 s.conditions) x in
      at (ltb-false 128 s.nodes u) (ltb-false 1024 s.conditions v) (ltb-false 512 s.orders y) p
    where
      at : (merged_sizes b c).nodes ≤ 128 → (merged_sizes b c).conditions ≤ 1024 → (merged_sizes b c).orders ≤ 512
          → OverLimit b c → ⊥
      at u v w (by_nodes l) = omega arith
      at u v w (by_conditions l) = omega arith
      at u v w (by_orders l) = omega arith

  abbrev differing : ℕ → Bool
  differing f = not (beq (start_flag b f) (start_flag c f))

  differ : refused34 b c ≡ true → StartsApart b c
  unfolding refused34
  differ h = let (f, l, e) = found_at (min (flag_count b) (flag_count c)) differing h in record {
    flag = f;
    in_first = omega arith;
    in_second = omega arith;
    differs = beq_other (start_flag b f) (start_flag c f) e;
  }

  not_differ : refused34 b c ≡ false → ¬ StartsApart b c
  not_differ h s = s.differs (alike b c h s.flag s.in_first s.in_second)

  -- ---- the merged plan at the beginning of lent memory, and by itself
  module _ (ok : Mergeable b c) where
    plan_in : (out : List ℕ) → plan_length (merged_sizes b c) ≤ length out
        → IsMerged b c (take (plan_length (merged_sizes b c)) (with_merged b c out))
    plan_in out l = is_merged b c ok _ (laid_in (merged_fields b c) out l)

    clear_in : (out : List ℕ) → plan_length (merged_sizes b c) ≤ length out
        → let m = take (plan_length (merged_sizes b c)) (with_merged b c out) in
        Clear (plan_of m) (start_of m) ↔ BothClear (plan_of b) (plan_of c) (start_of b) (start_of c)
    clear_in out l = clear_exactly b c ok _ (laid_in (merged_fields b c) out l)

    plan_is : IsMerged b c (laid_bytes (merged_fields b c))
    plan_is = is_merged b c ok _ (laid_bytes_lem (merged_fields b c))

    longer : (out : List ℕ) → length out < plan_length (merged_sizes b c) → MergedLonger b c out
    longer out l = record {
      plan = laid_bytes (merged_fields b c);
      is_merged = plan_is;
      longer = omega (arith, merged_long b c _ plan_is);
    }

module _ (b c out : List ℕ) where
  -- ---- each check in its turn
  abbrev short : Bool
  short = ltb (length out) (plan_length (merged_sizes b c))

  when_33 : refused33 b c ≡ true → pair_refusal b c out ≡ 33
  unfolding pair_refusal
  when_33 h = rw h

  when_34 : refused33 b c ≡ false → refused34 b c ≡ true → pair_refusal b c out ≡ 34
  unfolding pair_refusal
  when_34 h k = rw (h, k)

  when_15 : refused33 b c ≡ false → refused34 b c ≡ false → short ≡ true → pair_refusal b c out ≡ 15
  unfolding pair_refusal
  when_15 h k l = rw (h, k, l)

  when_none : refused33 b c ≡ false → refused34 b c ≡ false → short ≡ false → pair_refusal b c out ≡ 0
  unfolding pair_refusal
  when_none h k l = rw (h, k, l)

  both_pass : refusal b ≡ 0 → refusal c ≡ 0 → merge_refusal b c out ≡ pair_refusal b c out
  unfolding merge_refusal
  both_pass x y = rw (x, y)

  -- ---- the words for a refusal
  pair_words : refusal b ≡ 0 → refusal c ≡ 0 → (n : ℕ) → pair_refusal b c out ≡ suc n → MergeRefused b c out (suc n)
  pair_words x y n = at (refused33 b c) refl (refused34 b c) refl short refl
    where
      pass : BothPass b c
      pass = record { first_passes = x; second_passes = y }

      at : (p : Bool) → refused33 b c ≡ p → (q : Bool) → refused34 b c ≡ q → (r : Bool) → short ≡ r
          → pair_refusal b c out ≡ suc n → MergeRefused b c out (suc n)
      at true u q v r w e = too_large pass (over_limit b c u) (sym e ∙ when_33 u)
      at false u true v r w e = starts_apart pass (not_over b c u) (differ b c v) (sym e ∙ when_34 u v)
      at false u false v true w e = too_short pass (not_over b c u) (not_differ b c v)
          (longer b c (record { first_passes = x; second_passes = y; small = u; alike = v }) out
          (ltb-true (length out) _ w))
          (sym e ∙ when_15 u v w)
      at false u false v false w e = absurd (omega (arith, e, when_none u v w))

  words : (n : ℕ) → merge_refusal b c out ≡ suc n → MergeRefused b c out (suc n)
  unfolding merge_refusal
  words n e =
      by_cases (ℕ_discrete (refusal b) 0)
      (λ (x : refusal b ≡ 0). by_cases (ℕ_discrete (refusal c) 0)
      (λ (y : refusal c ≡ 0). pair_words x y n (sym (both_pass x y) ∙ e))
      (λ y. second_refused x y (sym e ∙ sym (first_none (refusal b) _ x) ∙ sym (first_some (refusal c) _ y))))
      (λ x. first_refused x (sym e ∙ sym (first_some (refusal b) _ x)))

  -- and nothing else is refused so
  pair_only : {n : ℕ} → BothPass b c → pair_refusal b c out ≡ n → n ≢ 0 → (merge_refusal b c out ≡ n) × (n ≢ 0)
  pair_only p e z = (both_pass p.first_passes p.second_passes ∙ e, z)

  not_33 : ¬ OverLimit b c → refused33 b c ≡ false
  not_33 l = not_passed (refused33 b c) (λ u. l (over_limit b c u))

  only : (n : ℕ) → MergeRefused b c out n → (merge_refusal b c out ≡ n) × (n ≢ 0)
  unfolding merge_refusal
  only n (first_refused x e) = (sym (first_some (refusal b) _ x) ∙ sym e, λ z. x (sym e ∙ z))
  only n (second_refused x y e) =
      (sym (first_none (refusal b) _ x) ∙ sym (first_some (refusal c) _ y) ∙ sym e, λ z. y (sym e ∙ z))
  only n (too_large p l e) = pair_only p (when_33 (passed_not (refused33 b c) (λ u. not_over b c u l)) ∙ sym e)
      (λ z. omega arith)
  only n (starts_apart p l s e) =
      pair_only p (when_34 (not_33 l) (passed_not (refused34 b c) (λ u. not_differ b c u s)) ∙ sym e) (λ z. omega arith)
  only n (too_short p l s m e) =
      pair_only p (when_15 (not_33 l) (not_passed (refused34 b c) (λ u. s (differ b c u)))
      (lt-ltb (length out) (plan_length (merged_sizes b c))
      (omega (arith, m.longer, merged_long b c m.plan m.is_merged))) ∙ sym e) (λ z. omega arith)

  -- ---- nothing applies
  pub record Passed : Type 0 where
    pub mergeable : Mergeable b c
    pub room : plan_length (merged_sizes b c) ≤ length out

  pub passed : merge_refusal b c out ≡ 0 → Passed
  unfolding merge_refusal pair_refusal
  passed e =
      let (x, y) = both_none (refusal b) _ e in
      let (z, u) = both_none (refusal c) _ y in
      let (p, q) = check_passed (refused33 b c) 32 _ u in
      let (r, s) = check_passed (refused34 b c) 33 _ q in
      let (v, w) = check_passed short 14 0 s in
      record {
        mergeable = record { first_passes = x; second_passes = z; small = p; alike = r };
        room = ltb-false (length out) (plan_length (merged_sizes b c)) v;
      }

  -- ---- the call
  abbrev len : ℕ
  len = plan_length (merged_sizes b c)

  pub merges : {a : ℕ ⊎ ℕ} {out' : List ℕ} → a ≡ merge_answer b c out → out' ≡ merge_left b c out
      → Merges b c out a out'
  unfolding merge_answer merge_left
  merges p q = rw (p, q) (at (merge_refusal b c out) refl)
    where
      at : (n : ℕ) → merge_refusal b c out ≡ n
          → Merges b c out (refused_or n len) (cond (eqb n 0) (with_merged b c out) out)
      at zero e = let k = passed e in record {
        returns = rw e;
        leaves = rw e;
        refused = λ n. (λ z. absurd (refused_not (sym z)), λ r. let (x, y) = only n r in absurd (y (sym x ∙ e)));
        unchanged = λ n z. absurd (refused_not (sym z));
        fits = λ n z. omega (arith, same_given z, k.room);
        made = λ n z. rw (← same_given z) (plan_in b c k.mergeable out k.room);
        clear = λ n z. rw (← same_given z) (clear_in b c k.mergeable out k.room);
        kept = λ n z i l. past_overlay (byte_at (merged_fields b c)) out len i (omega (arith, same_given z));
        as_long = length_overlay (byte_at (merged_fields b c)) out len;
      }
      at (suc n) e = let z = ne_eqb (suc n) 0 (λ q. omega arith) in rw z (record {
        returns = rw e;
        leaves = rw (e, z);
        refused = λ k. (λ z. rw (← same_refusal z) (words n e), λ r. let (x, y) = only k r in ap inl (sym e ∙ x));
        unchanged = λ k z. refl;
        fits = λ k z. absurd (refused_not z);
        made = λ k z. absurd (refused_not z);
        clear = λ k z. absurd (refused_not z);
        kept = λ k z. absurd (refused_not z);
        as_long = refl;
      })

-- ---- each case of the code
pub limits_test : (b c : List ℕ) {s : Sizes} {t : Bool} → s ≡ merged_sizes b c
    → ((ltb 128 s.nodes || ltb 1024 s.conditions) || ltb 512 s.orders) ≡ t → refused33 b c ≡ t
unfolding refused33
limits_test b c e h =
    ap (λ (z : Sizes). (ltb 128 z.nodes || ltb 1024 z.conditions) || ltb 512 z.orders) (sym e) ∙ h

module _ (b c out : List ℕ) where
  refused_with : {r : ℕ} → merge_refusal b c out ≡ r → r ≢ 0 → Merges b c out (inl r) out
  unfolding merge_answer merge_left
  refused_with {r} e n = merges b c out (rw e (answer_some r _ n)) (rw (e, ne_eqb r 0 n))

  pub merges_first : {r : ℕ} → r ≡ refusal b → r ≢ 0 → Merges b c out (inl r) out
  merges_first e n = let (x, y) = only b c out _ (first_refused (λ z. n (e ∙ z)) e) in refused_with x n

  module _ (one : refusal b ≡ 0) where
    pub merges_second : {r : ℕ} → r ≡ refusal c → r ≢ 0 → Merges b c out (inl r) out
    merges_second e n = let (x, y) = only b c out _ (second_refused one (λ z. n (e ∙ z)) e) in refused_with x n

    module _ (other : refusal c ≡ 0) where
      pub merges_33 : refused33 b c ≡ true → Merges b c out (inl 33) out
      merges_33 h = refused_with (both_pass b c out one other ∙ when_33 b c out h) (λ z. omega arith)

      pub merges_34 : refused33 b c ≡ false → refused34 b c ≡ true → Merges b c out (inl 34) out
      merges_34 h k = refused_with (both_pass b c out one other ∙ when_34 b c out h k) (λ z. omega arith)

  module _ (ok : Mergeable b c) where
    pub merges_15 : length out < plan_length (merged_sizes b c) → Merges b c out (inl 15) out
    merges_15 l = refused_with (both_pass b c out ok.first_passes ok.second_passes
        ∙ when_15 b c out ok.small ok.alike (lt-ltb (length out) _ l)) (λ z. omega arith)

    pub merges_plan : {n : ℕ} {out' : List ℕ} → plan_length (merged_sizes b c) ≤ length out
        → n ≡ plan_length (merged_sizes b c)
        → out' ≡ with_merged b c out → Merges b c out (inr n) out'
    unfolding merge_answer merge_left
    merges_plan l e q =
        let z : merge_refusal b c out ≡ 0 = both_pass b c out ok.first_passes ok.second_passes
        ∙ when_none b c out ok.small ok.alike (le-ltb (length out) _ l) in
        merges b c out (rw (z, e)) (rw z q)
