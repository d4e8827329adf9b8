-- What the words of a search tell: whether a child may come next, and where the search is with one child more. Assumes
-- nothing.
use mathlib.Core.Path.{◌≡◌, refl, sym, ap, ◌∙◌}
use mathlib.Core.Logic.Iff
use mathlib.Core.Logic.{◌⊎◌, inl, inr, ◌↔◌}
use mathlib.Core.Bool.{Bool, true, false, not, ◌||◌}
use mathlib.Core.List.Memᴰ.{head as here}
use mathlib.Core.List.Memᴰ.{tail as there}
use mathlib.Core.List.{List, ◌∷◌, Memᴰ as Among}
use mathlib.Core.List.Memᴰ.{cases_cons as among_cases}
use Prim.Native.Nat.{ℕ, ◌^◌, ◌<◌}
use native.Mathlib.Omega.{arith}
use native.Mathlib.Decide.{ℕ_discrete}
use lib.Dec.{T}
use lib.Bits.{bit_and, bit_or, bit_xor, and_le_r}
use lib.ListN.{get_or}
use borrow.Author.Tests.{eqb-true}
use Rattle.base.specs.Bits.{bit}
use Rattle.base.specs.Words.{Says}
use Rattle.base.proofs.Tests.{not_test}
use Rattle.base.proofs.Bits.{bit_or_lem, one_same, one_other}
use Rattle.base.proofs.Says.{says_map, says_dec, says_self, says_and, says_or, says_less, says_set, no_flag}
use Rattle.base.proofs.Words.{no_bits, no_bit_at_all, or_zero}
use Rattle.base.proofs.Count.{some_counted, counted_some, count_one_more}
use Rattle.runs.specs.Plan.{Plan, Before}
use Rattle.runs.specs.Summary.{May, ExternalPre}
use Rattle.runs.proofs.Reflect.{T_true, true_T, clash}
use Rattle.runs.proofs.Plan.Chains.{before_child}
use Rattle.tables.specs.declared.Segment.{Segment}
use Rattle.marks_row.specs.Columns.{avoid, may_pre, may_post, word_in}
use Rattle.sequences.specs.Model.{MayBeTrue, AllSeen, MayFollow}
use Rattle.sequences.proofs.Reflect.{true_next, safe_on_flags}
use Rattle.sequence_search.specs.declared.Reach.{Reach}
use Rattle.sequence_search.specs.Search.{count, child_at, follows_b, after, Tabled, flags_for, ComeTo}
use Rattle.sequence_search.proofs.Places.{is_child_lem, place_of_lem, same_place}

one_says : (k f : ℕ) → Says (2 ^ k) f (f ≡ k)
one_says k f = record { to = λ t. at t (ℕ_discrete f k); from = λ e. true_T _ (ap (bit (2 ^ k)) e ∙ one_same k) }
  where
    at : T (bit (2 ^ k) f) → Dec (f ≡ k) → f ≡ k
    at t (yes e) = e
    at t (no n) = let x : true ≡ false = sym (T_true _ t) ∙ one_other k f n in clash cc

unset : (b : Bool) → (not b ≡ true) ↔ (¬ T b)
unset b = (λ e. (not_test b).1 (true_T _ e), λ k. T_true _ ((not_test b).0 k))

module _ {p : Plan} {F : ℕ → Bool} {rows kids masks : List ℕ} {s : Segment} {seen : List ℕ} {r : Reach}
    (t : Tabled p rows kids s masks) (cm : ComeTo p F kids s seen r) where
  -- a place whose bit is not set is not seen
  unseen : {i : ℕ} → i < count s → (not (bit r.seen i) ≡ true) ↔ (¬ Among (child_at kids s i) seen)
  unseen {i} l = (
    λ e x. (unset (bit r.seen i)).0 e ((cm.places i l).from x),
    λ k. (unset (bit r.seen i)).1 (λ b. k ((cm.places i l).to b)),
  )

  pub none_left : r.left ≡ 0 → AllSeen p F seen
  none_left e c h = let (i, l, q) = place_of_lem t.root h in rw q at (at i l (says_dec (cm.places i l)))
    where
      at : (i : ℕ) → i < count s → Dec (Among (child_at kids s i) seen) → Among (child_at kids s i) seen
      at i l (yes x) = x
      at i l (no k) = absurd
          (omega (arith, some_counted (count s) (λ j. not (bit r.seen j)) i l ((unseen l).1 k), cm.left, e))

  pub some_left : (r.left ≡ 0 → ⊥) → ¬ AllSeen p F seen
  some_left n g =
      let (i, l, e) = counted_some (count s) (λ j. not (bit r.seen j)) (λ e. n (sym cm.left ∙ e)) in
      (unseen l).0 e (g _ (is_child_lem t.root l))

  -- the child at place i
  module _ {i : ℕ} (li : i < count s) where
    abbrev child : ℕ
    child = child_at kids s i

    abbrev mask : ℕ
    mask = get_or masks i 0

    says_again : (f : ℕ) → Says (bit_and r.seen (2 ^ i)) f (T (bit r.seen f) × (f ≡ i))
    says_again f = says_and refl (says_self r.seen f) (one_says i f)

    says_early : (j : ℕ) → Says (bit_xor mask (bit_and mask r.seen)) j
        (((j < count s) × Before p (child_at kids s j) child) × (¬ T (bit r.seen j)))
    says_early j = says_less refl (t.before i j li) (says_self r.seen j)

    -- of either sign: a literal that the child may need, and whose opposite may be true
    says_clash : (v : Bool) (f : ℕ) → f < 64 → Says (bit_and (word_in rows child (may_pre v)) (flags_for r (not v))) f
        (May p child (ExternalPre p f v) × MayBeTrue p F f (not v) seen)
    says_clash v f l =
        says_and refl ((t.right child (is_child_lem t.root li)).says (may_pre v) f l) (cm.may_be (not v) f l)

    follow : bit_and r.seen (2 ^ i) ≡ 0 → bit_xor mask (bit_and mask r.seen) ≡ 0
        → ((v : Bool) → bit_and (word_in rows child (may_pre v)) (flags_for r (not v)) ≡ 0) → MayFollow p F seen child
    follow za ze zc = record {
      child = is_child_lem t.root li;
      new = λ x. no_flag _ i za ((says_again i).from ((cm.places i li).from x, refl));
      ordered = ordered;
      safe = safe_on_flags p t.well_formed F (λ f v l x y. no_flag _ f (zc v)
          ((says_clash v f (omega (arith, l, t.flags))).from (x, y)));
    }
      where
        ordered : (a : ℕ) → Before p a child → Among a seen
        ordered a y =
            let (j, lj, e) = place_of_lem t.root (before_child p t.well_formed (is_child_lem t.root li) y) in
            rw e at (at j lj (rw (← e) at y) (says_dec (cm.places j lj)))
          where
            at : (j : ℕ) → j < count s → Before p (child_at kids s j) child → Dec (Among (child_at kids s j) seen)
                → Among (child_at kids s j) seen
            at j lj z (yes x) = x
            at j lj z (no n) = absurd (no_flag _ j ze ((says_early j).from
                ((lj, z), λ b. n ((cm.places j lj).to b))))

    module _ (m : MayFollow p F seen child) where
      not_again : bit_and r.seen (2 ^ i) ≡ 0
      not_again = no_bit_at_all _
          (λ f x. let (y, e) = (says_again f).to x in m.new ((cm.places i li).to (rw e at y)))

      not_early : bit_xor mask (bit_and mask r.seen) ≡ 0
      not_early = no_bit_at_all _
          (λ j x. let (y, n) = (says_early j).to x in n ((cm.places j y.0).from (m.ordered _ y.1)))

      no_clash : (v : Bool) → flags_for r (not v) < 2 ^ 64
          → bit_and (word_in rows child (may_pre v)) (flags_for r (not v)) ≡ 0
      no_clash v b = no_bits _ (omega (arith, b, and_le_r (word_in rows child (may_pre v)) (flags_for r (not v))))
          (λ f l x. let (y, z) = (says_clash v f l).to x in m.safe f v y z)

    -- the four tests in one word
    pub follows : ((v : Bool) → flags_for r v < 2 ^ 64)
        → (follows_b rows child mask (2 ^ i) r ≡ true) ↔ MayFollow p F seen child
    follows wide = (to, from)
      where
        to : follows_b rows child mask (2 ^ i) r ≡ true → MayFollow p F seen child
        to e =
            let (x, y) = or_zero _ _ (eqb-true _ 0 e) in
            let (za, ze) = or_zero _ _ x in
            let (z1, z0) = or_zero _ _ y in
            follow za ze (λ v. at v z1 z0)
          where
            at : (v : Bool) → bit_and (word_in rows child (may_pre true)) r.clear ≡ 0
                → bit_and (word_in rows child (may_pre false)) r.set ≡ 0
                → bit_and (word_in rows child (may_pre v)) (flags_for r (not v)) ≡ 0
            at true z1 z0 = z1
            at false z1 z0 = z0

        from : MayFollow p F seen child → follows_b rows child mask (2 ^ i) r ≡ true
        from m = rw (not_again m, not_early m, no_clash m true (wide false), no_clash m false (wide true))

    -- one child further on
    pub next_come : MayFollow p F seen child → ComeTo p F kids s (child ∷ seen) (after rows child (2 ^ i) r)
    next_come m = record {
      places = λ j lj. says_map (to j, λ x. from j lj (among_cases x)) (says_set i refl (cm.places j lj));
      left = omega (
        arith,
        count_one_more (count s) (λ j. not (bit (bit_or r.seen (2 ^ i)) j)) (λ j. not (bit r.seen j)) i li now_off
            ((unseen li).1 m.new) others,
        cm.left,
      );
      may_be = may_be;
    }
      where
        to : (j : ℕ) → Among (child_at kids s j) seen ⊎ (j ≡ i) → Among (child_at kids s j) (child ∷ seen)
        to j (inl x) = there x
        to j (inr e) = here (ap (λ (k : ℕ). child_at kids s k) e)

        from : (j : ℕ) → j < count s → (child_at kids s j ≡ child) ⊎ Among (child_at kids s j) seen
            → Among (child_at kids s j) seen ⊎ (j ≡ i)
        from j lj (inl e) = inr (same_place t.root li lj e)
        from j lj (inr x) = inl x

        or-true : (a b : Bool) → b ≡ true → not (a || b) ≡ false
        or-true true b e = refl
        or-true false b e = rw e

        or-false : (a b : Bool) → b ≡ false → not a ≡ not (a || b)
        or-false true b e = refl
        or-false false b e = rw e

        now_off : not (bit (bit_or r.seen (2 ^ i)) i) ≡ false
        now_off = ap not (bit_or_lem r.seen (2 ^ i) i) ∙ or-true (bit r.seen i) (bit (2 ^ i) i) (one_same i)

        others : (j : ℕ) → j < count s → (j ≡ i → ⊥) → not (bit r.seen j) ≡ not (bit (bit_or r.seen (2 ^ i)) j)
        others j lj n = or-false (bit r.seen j) (bit (2 ^ i) j) (one_other i j n)
            ∙ ap not (sym (bit_or_lem r.seen (2 ^ i) j))

        may_be : (v : Bool) (f : ℕ) → f < 64
            → Says (flags_for (after rows child (2 ^ i) r) v) f (MayBeTrue p F f v (child ∷ seen))
        may_be true f l = says_map (Iff.symm (true_next p t.well_formed F)) (says_or refl
            ((t.right child (is_child_lem t.root li)).says (may_post true) f l)
            (says_and refl ((t.right child (is_child_lem t.root li)).says avoid f l) (cm.may_be true f l)))
        may_be false f l = says_map (Iff.symm (true_next p t.well_formed F)) (says_or refl
            ((t.right child (is_child_lem t.root li)).says (may_post false) f l)
            (says_and refl ((t.right child (is_child_lem t.root li)).says avoid f l) (cm.may_be false f l)))
