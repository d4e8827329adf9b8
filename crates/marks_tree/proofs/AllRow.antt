-- The row of an all_of group: what its children show one by one, and what its pairs add. Assumes nothing.
use mathlib.Core.Path.{◌≡◌, refl}
use mathlib.Core.Logic.Iff
use mathlib.Core.Logic.{◌⊎◌, inl, inr, ⊎_elim, ◌↔◌}
use mathlib.Core.Bool.{Bool, true, false}
use mathlib.Core.List.{List}
use Prim.Native.Nat.{ℕ, ◌<◌}
use lib.Dec.{T}
use lib.ListN.{get_or}
use Rattle.base.specs.Bits.{bit}
use Rattle.base.specs.Words.{Says}
use Rattle.base.proofs.Says.{says_map, says_eq, says_dec, says_or, says_none}
use Rattle.runs.specs.Plan.{all_of, Plan}
use Rattle.runs.specs.WellFormed.{WellFormed}
use Rattle.runs.proofs.Summary.Clobber.{clobber_all}
use Rattle.runs.proofs.Summary.ReflectClobber.{must_clobber_all}
use Rattle.marks_row.specs.Columns.{Column, avoid, quiet, covered, may_pre, may_post, may_inc, requires, asserts}
use Rattle.marks_row.specs.Columns.{posts, may_clobber, must_inc, must_clobber}
use Rattle.marks_row.specs.Columns.{index_of, Fact, Row, RowIs}
use Rattle.marks_group.specs.Groups.{Within, WithinRow}
use Rattle.marks_row.proofs.Rows.{index_small}
use Rattle.marks_pair.specs.declared.Literals.{Literals}
use Rattle.marks_between.specs.Passing.{SomePair}
use Rattle.marks_pair.specs.Pairs.{Pair, sign_word}
use Rattle.marks_pair.proofs.Pairs.{by_pairs}
use Rattle.marks_must_pairs.specs.MustPairs.{MustPair}
use Rattle.marks_tree.specs.Clobbers.{OpenLiterals, Extra, clobber_of, Ored}
use Rattle.marks_tree.proofs.Open.{pair_open}

-- nothing is added
same : {A : Type 0} → (A ⊎ ⊥) ↔ A
same {A} = (at, inl)
  where
    at : A ⊎ ⊥ → A
    at (inl a) = a
    at (inr x) = absurd x

module _ (p : Plan) (w : WellFormed p) {n : ℕ} (kn : p.tree.kind n ≡ all_of) (f : ℕ) where
  may : (v : Bool) → Dec (Within p n f (may_clobber v))
      → (Within p n f (may_clobber v) ⊎ Extra p n f (may_clobber v)) ↔ Fact p n f (may_clobber v)
  may v d = let e = Iff.trans (clobber_all p w kn f v) (by_pairs p n f v) in
      (λ x. e.1 (⊎_elim inl (λ y. inr y.1) x), λ x. at d (e.0 x))
    where
      at : Dec (Within p n f (may_clobber v)) → Within p n f (may_clobber v) ⊎ SomePair p n (Pair p n f v)
          → Within p n f (may_clobber v) ⊎ Extra p n f (may_clobber v)
      at (yes y) x = inl y
      at (no k) (inl y) = inl y
      at (no k) (inr y) = inr (k, y)

  must : (v : Bool) → (Within p n f (must_clobber v) ⊎ Extra p n f (must_clobber v)) ↔ Fact p n f (must_clobber v)
  must v = let e = must_clobber_all p w f v kn in (
    λ x. e.1 (⊎_elim inl (λ y. ⊎_elim inl
        (λ z. inr (
          z.0,
          z.1,
          (
            z.2.0,
            z.2.1,
            (z.2.2.0, (z.2.2.1.0.0, (z.2.2.1.0.1, z.2.2.1.1))),
          ),
        )) y) x),
    λ x. ⊎_elim inl (λ z. inr (inr (
      z.0,
      z.1,
      (z.2.0, z.2.1, (z.2.2.0, ((z.2.2.1.0, z.2.2.1.1.0), z.2.2.1.1.1))),
    ))) (e.0 x),
  )

  -- what the children show one by one, and what the pairs add, are the facts
  pub all_fact : (k : Column) → Dec (Within p n f k) → (Within p n f k ⊎ Extra p n f k) ↔ Fact p n f k
  all_fact avoid d = same
  all_fact (quiet v) d = same
  all_fact (covered v) d = same
  all_fact (may_pre v) d = same
  all_fact (may_post v) d = same
  all_fact (may_inc v) d = same
  all_fact (requires v) d = same
  all_fact (asserts v) d = same
  all_fact (posts v) d = same
  all_fact (may_clobber v) d = may v d
  all_fact (must_inc v) d = same
  all_fact (must_clobber v) d = must v

module _ {p : Plan} {n : ℕ} (w : WellFormed p) (kn : p.tree.kind n ≡ all_of) {words : List ℕ}
    (h : WithinRow p n words) {wanted may must : Literals} (o : OpenLiterals words wanted) where
  module _
      (a : (v : Bool) (f : ℕ) → f < 64
      → Says (sign_word may v) f (T (bit (sign_word wanted v) f) × SomePair p n (Pair p n f v)))
      (b : (v : Bool) (f : ℕ) → f < 64 → Says (sign_word must v) f
      (T (bit (sign_word (record {
        clear = get_or words (index_of (must_clobber false)) 0;
        set = get_or words (index_of (must_clobber true)) 0;
      }) v) f) ⊎ SomePair p n (MustPair p n f v))) where
    known : (v : Bool) (f : ℕ) → f < 64
        → T (bit (sign_word (record {
          clear = get_or words (index_of (must_clobber false)) 0;
          set = get_or words (index_of (must_clobber true)) 0;
        }) v) f) ↔ Within p n f (must_clobber v)
    known false f l = let s = h.says (must_clobber false) f l in (s.to, s.from)
    known true f l = let s = h.says (must_clobber true) f l in (s.to, s.from)

    extra : (k : Column) (f : ℕ) → f < 64 → Says (clobber_of may must k) f (Extra p n f k)
    extra avoid f l = says_none refl (λ x. x)
    extra (quiet v) f l = says_none refl (λ x. x)
    extra (covered v) f l = says_none refl (λ x. x)
    extra (may_pre v) f l = says_none refl (λ x. x)
    extra (may_post v) f l = says_none refl (λ x. x)
    extra (may_inc v) f l = says_none refl (λ x. x)
    extra (requires v) f l = says_none refl (λ x. x)
    extra (asserts v) f l = says_none refl (λ x. x)
    extra (posts v) f l = says_none refl (λ x. x)
    extra (may_clobber v) f l = says_map (
      λ x. (((o p n h v f l).to x.0).1, x.1),
      λ x. ((o p n h v f l).from (pair_open p w kn f v x.1, x.0), x.1),
    ) (a v f l)
    extra (must_inc v) f l = says_none refl (λ x. x)
    extra (must_clobber v) f l = says_map (
      λ x. ⊎_elim (λ t. inl ((known v f l).0 t)) inr x,
      λ x. ⊎_elim (λ t. inl ((known v f l).1 t)) inr x,
    ) (b v f l)

    pub all_row : {x r : List ℕ} → RowIs (clobber_of may must) x → Ored words x r → Row p n r
    all_row c q = record {
      says = λ k f l. says_map (all_fact p w kn f k (says_dec (h.says k f l)))
          (says_or (q.is (index_of k) (index_small k)) (h.says k f l) (says_eq (c.is k) (extra k f l)));
    }
