-- The bytes of a summary, from the words of its node. Assumes nothing.
use mathlib.Core.Path.{◌≡◌, refl, sym, ◌∙◌}
use mathlib.Core.Logic.{inl, inr}
use mathlib.Core.Bool.{Bool, true, false, cond, not, true≢false}
use mathlib.Core.List.{List}
use Prim.Native.Nat.{ℕ, zero, suc, ◌+◌, ◌*◌, ◌/◌, ◌%◌, ◌^◌, ◌≤◌, ◌<◌}
use native.Mathlib.Omega.{arith}
use lib.ListN.{length, get_or}
use lib.Dec.{eqb, ltb, eqb→eq}
use borrow.Author.Tests.{ne_eqb, lt-ltb, le-ltb, ltb-true, ltb-false}
use Rattle.base.specs.Bits.{bit}
use Rattle.base.specs.Words.{Says}
use Rattle.base.specs.Answers.{overlay}
use Rattle.base.proofs.First.{first_some, both_none, check_passed}
use Rattle.base.proofs.Says.{says_map, says_none}
use Rattle.base.proofs.Overlay.{length_overlay, at_overlay, past_overlay}
use Rattle.plan_format.specs.Format.{node_count, flag_count}
use Rattle.node_sets.specs.Sets.{marked}
use Rattle.plan_rules.specs.Rules.{refusal}
use Rattle.plan_blocked.specs.Blocked.{refusal_under}
use Rattle.plan_blocked.specs.Inner.{Standing}
use Rattle.plan_blocked.proofs.Refused.{plan_accepted, blocks}
use Rattle.runs.specs.Searches.{listed}
use Rattle.runs.specs.Blocked.{MarkedUnder}
use Rattle.runs.specs.Branches.{Blocks}
use Rattle.runs.specs.Model.Blocked.{without, marked_under_b}
use Rattle.runs.proofs.Blocked.Branches.{blocked_marks}
use Rattle.runs.specs.Plan.{Node, sign_number}
use Rattle.runs.proofs.Plan.Numbers.{sign_small}
use Rattle.plan_check.specs.Meaning.{plan_of}
use Rattle.plan_check.proofs.Meaning.{means_well_formed}
use Rattle.runs.specs.Summary.{Mark, byte_of}
use Rattle.runs.specs.Numbers.{mark_at}
use Rattle.runs.proofs.Reflect.{Reflects, T_true, true_T}
use Rattle.marks_words.specs.Words.{word_index, MarkWords}
use Rattle.marks_words.proofs.WordColumns.{mark_small, mark_byte, byte_mark}
use Rattle.summary.specs.Summary.{summary_refusal, Tells, Summarised}
use Rattle.summary.specs.Model.{summary_byte, summary_left}
use Rattle.summary.specs.Inner.{UnderWords}

-- the digit of a bit that says what a test reflects
pub digit_is : {w f : ℕ} {A : Type 0} (t : Bool) → Says w f A → Reflects t A → w / 2 ^ f % 2 ≡ cond t 1 0
unfolding bit
digit_is {w} {f} true s r = eqb→eq (w / 2 ^ f % 2) 1 (s.from (r.to tt))
digit_is {w} {f} false s r = small (w / 2 ^ f % 2) (omega arith) (λ e. r.from (s.to (rw e tt)))
  where
    small : (d : ℕ) → d < 2 → (d ≡ 1 → ⊥) → d ≡ 0
    small d l n = omega arith

-- and back
pub tells : {A : Type 0} (t : Bool) → Reflects t A → Tells (cond t 1 0) A
tells true r = inl (refl, r.to tt)
tells false r = inr (refl, r.from)

sign_of : (d : ℕ) → d < 2 → sign_number (eqb d 1) ≡ d
sign_of zero l = refl
sign_of (suc zero) l = refl
sign_of (suc (suc d)) l = absurd (omega arith)

sign_back : (v : Bool) → eqb (sign_number v) 1 ≡ v
sign_back false = refl
sign_back true = refl

module _ (b xs : List ℕ) (ok : refusal_under b xs ≡ 0) (n : ℕ) where
  exact : (f : ℕ) (v : Bool) (m : Mark)
      → Reflects (marked_under_b (plan_of b) (listed xs) n f v m) (MarkedUnder (plan_of b) (listed xs) n f v m)
  exact f v m =
      blocked_marks (plan_of b) (means_well_formed b (plan_accepted b xs ok)) (listed xs) (blocks b xs ok) n f v m

  pub byte_is : {standing words : List ℕ} → UnderWords b standing n words → Standing b (listed xs) standing → (i : ℕ)
      → i < 1024 → get_or words (i % 16) 0 / 2 ^ (i / 16) % 2 ≡ summary_byte b xs n i
  unfolding summary_byte
  byte_is {words = words} w h i k =
      let v = eqb (i / 8 % 2) 1 in
      let m = mark_at (i % 8) in
      let at : i % 16 ≡ word_index v m =
      omega (arith, sign_of (i / 8 % 2) (omega arith), byte_mark (i % 8) (omega arith)) in
      let on : i / 16 ≡ i / 8 / 2 = omega arith in
      rw (at, on) (digit_is (marked_under_b (plan_of b) (listed xs) n (i / 8 / 2) v m)
      (w.says (listed xs) (blocks b xs ok) h v m (i / 8 / 2) (omega arith)) (exact (i / 8 / 2) v m))

  byte_at_lem : (f : ℕ) (v : Bool) (m : Mark) → summary_byte b xs n (8 * (2 * f + sign_number v) + byte_of m)
      ≡ cond (marked_under_b (plan_of b) (listed xs) n f v m) 1 0
  unfolding summary_byte
  byte_at_lem f v m =
      let i = 8 * (2 * f + sign_number v) + byte_of m in
      let entry : i / 8 ≡ 2 * f + sign_number v = omega (arith, mark_small m) in
      let flag : i / 8 / 2 ≡ f = omega (arith, entry, sign_small v) in
      let sign : i / 8 % 2 ≡ sign_number v = omega (arith, entry, sign_small v) in
      let mark : i % 8 ≡ byte_of m = omega (arith, mark_small m) in
      rw (flag, sign, mark, sign_back v, mark_byte m)

  pub byte_tells : (out : List ℕ) → 16 * flag_count b ≤ length out → (f : ℕ) → f < flag_count b → (v : Bool) (m : Mark)
      → Tells
      (get_or (overlay (summary_byte b xs n) (16 * flag_count b) out) (8 * (2 * f + sign_number v) + byte_of m) 0)
      (MarkedUnder (plan_of b) (listed xs) n f v m)
  byte_tells out long f k v m =
      rw (
        at_overlay (summary_byte b xs n) out (16 * flag_count b) (8 * (2 * f + sign_number v) + byte_of m) long
            (omega (arith, sign_small v, mark_small m)),
        byte_at_lem f v m,
      ) (tells (marked_under_b (plan_of b) (listed xs) n f v m) (exact f v m))

-- the words of a node that stands say its marks; those of another say nothing
module _ (b standing : List ℕ) (ok : refusal b ≡ 0) (n : ℕ) (l : n < node_count b) where
  node_stands : (S : ℕ → Bool) → Standing b S standing → get_or standing n 0 ≡ 1 → Node (without (plan_of b) S) n
  unfolding marked
  node_stands S h e = true_T _ (rw e at (sym (h.is n l)))

  pub stand_words : {words : List ℕ} → get_or standing n 0 ≡ 1
      → ((S : ℕ → Bool) → Blocks (plan_of b) S → Standing b S standing → Node (without (plan_of b) S) n
      → MarkWords (without (plan_of b) S) n words) → UnderWords b standing n words
  stand_words e w = record {
    says = λ S k h v m f j. let x = node_stands S h e in says_map (λ y. (x, y), λ y. y.1) ((w S k h x).says v m f j);
  }

  pub no_words : {words : List ℕ} → (get_or standing n 0 ≡ 1 → ⊥) → ((i : ℕ) → i < 16 → get_or words i 0 ≡ 0)
      → UnderWords b standing n words
  unfolding marked
  no_words k z = record {
    says = λ S y h v m f j. says_none (z (word_index v m) (omega (arith, mark_small m, sign_small v)))
        (λ x. true≢false (sym (T_true _ x.0) ∙ sym (h.is n l) ∙ ne_eqb _ 1 k));
  }

-- ---- refusals, forwards and backwards
module _ (b xs : List ℕ) (n : ℕ) (out : List ℕ) where
  pub refused_plan : (refusal_under b xs ≡ 0 → ⊥) → refusal_under b xs ≡ summary_refusal b xs n out
  unfolding summary_refusal
  refused_plan k = first_some (refusal_under b xs) _ k

  pub refused_15 : refusal_under b xs ≡ 0 → length out < 16 * flag_count b → 15 ≡ summary_refusal b xs n out
  unfolding summary_refusal
  refused_15 e l = simp (e, lt-ltb _ _ l)

  pub refused_17 : refusal_under b xs ≡ 0 → 16 * flag_count b ≤ length out → node_count b ≤ n
      → 17 ≡ summary_refusal b xs n out
  unfolding summary_refusal
  refused_17 e l k = simp (e, le-ltb _ _ l, le-ltb _ _ k)

  pub refused_none : refusal_under b xs ≡ 0 → 16 * flag_count b ≤ length out → n < node_count b
      → 0 ≡ summary_refusal b xs n out
  unfolding summary_refusal
  refused_none e l k = simp (e, le-ltb _ _ l, lt-ltb _ _ k)

  -- what an accepted call may rest on
  pub record Accepted : Type 0 where
    pub plan : refusal_under b xs ≡ 0
    pub room : 16 * flag_count b ≤ length out
    pub node : n < node_count b

  pub accepted : summary_refusal b xs n out ≡ 0 → Accepted
  unfolding summary_refusal
  accepted e =
      let w = both_none (refusal_under b xs) _ e in
      let x = check_passed (ltb (length out) (16 * flag_count b)) 14 _ w.1 in
      let y = check_passed (not (ltb n (node_count b))) 16 0 x.1 in
      record { plan = w.0; room = ltb-false _ _ x.0; node = ltb-true _ _ (not-false (ltb n (node_count b)) y.0) }
    where
      not-false : (t : Bool) → not t ≡ false → t ≡ true
      not-false true q = refl
      not-false false q = sym q

  -- the whole call, refused and accepted
  pub summary_refused : {r : ℕ} → r ≡ summary_refusal b xs n out → (r ≡ 0 → ⊥) → Summarised b xs n out r out
  unfolding summary_left
  summary_refused e k = record {
    returns = e;
    leaves = rw (ne_eqb _ 0 k);
    unchanged = λ z. refl;
    marks = λ z. absurd (k z);
    as_long = refl;
    later = λ i l. refl;
  }

  pub summary_written : summary_refusal b xs n out ≡ 0
      → Summarised b xs n out 0 (overlay (summary_byte b xs n) (16 * flag_count b) out)
  unfolding summary_left
  summary_written e = record {
    returns = sym e;
    leaves = refl;
    unchanged = λ z. absurd (z refl);
    marks = λ z f k v m. byte_tells b xs (accepted e).plan n out (accepted e).room f k v m;
    as_long = length_overlay (summary_byte b xs n) out (16 * flag_count b);
    later = λ i l. past_overlay (summary_byte b xs n) out (16 * flag_count b) i l;
  }
