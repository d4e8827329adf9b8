-- The search for a pair of children that clobbers a wanted literal. Assumes nothing.
use mathlib.Core.Path.{◌≡◌, refl}
use mathlib.Core.Logic.{◌≢◌, ◌⊎◌, inl, inr}
use mathlib.Core.Bool.{Bool, true, false}
use mathlib.Core.List.{List}
use Prim.Native.Nat.{ℕ, ◌+◌, ◌<◌}
use native.Mathlib.Omega.{arith}
use lib.Bits.{bit_or}
use lib.Dec.{T}
use lib.ListN.{get_or}
use Rattle.base.specs.Bits.{bit}
use Rattle.base.proofs.Says.{no_flag}
use Rattle.base.proofs.Words.{or_zero}
use Rattle.runs.specs.Plan.{Plan}
use Rattle.tables.specs.declared.Segment.{Segment}
use Rattle.tables.specs.Segments.{Position, Reached, Every}
use Rattle.marks_row.specs.Columns.{requires, posts, index_of, word_at}
use Rattle.marks_row.proofs.Rows.{cell}
use Rattle.tables.proofs.Segments.{every_next, every_child}
use Rattle.marks_between.specs.Passing.{Pairing}
use Rattle.marks_between.proofs.Passed.{kid}
use Rattle.marks_pair.specs.declared.Literals.{Literals}
use Rattle.marks_pair.specs.Pairs.{Opposite, sign_word, PairWords, NextPartner}
use Rattle.marks_pair.proofs.Pairs.{pair_opposite}
use Rattle.marks_may_pairs.specs.Search.{NoClobber, SearchedTo, Stopped, NoneClobbers}

word_zero : (r : Literals) → bit_or r.clear r.set ≡ 0 → (v : Bool) → sign_word r v ≡ 0
word_zero r e false = (or_zero r.clear r.set e).0
word_zero r e true = (or_zero r.clear r.set e).1

next : {segment : Segment} {i : ℕ} → Position segment i → Reached segment (i + 1)
next at = record { low = omega (arith, at.low); high = omega (arith, at.high) }

module _ {kids : List ℕ} {segment : Segment} {order rows : List ℕ} {wanted : Literals} {i j : ℕ}
    (s : SearchedTo kids segment order rows wanted i j) where
  -- the pairs with c that are passed over clobber no wanted literal
  pub goes_on : {k c : ℕ} → Position segment i → c ≡ get_or kids i 0 → NextPartner rows wanted c j segment.end k
      → SearchedTo kids segment order rows wanted i k
  goes_on at e (inl q) = rw q s
  goes_on {k} {c} at e (inr h) = record {
    child = s.child;
    partner = record { low = omega (arith, h.0, at.low, at.high); high = omega (arith, h.0) };
    before = s.before;
    here = λ p n g. rw e at (none p n g);
  }
    where
      concerned : (p : Plan) (n : ℕ) → Pairing kids segment order rows p n → (v : Bool) (f : ℕ) → f < 64 → {d : ℕ}
          → Opposite p f v c d
          → T (bit (word_at rows c (index_of (requires v))) f) ⊎ T (bit (word_at rows c (index_of (posts v))) f)
      concerned p n g v f l (inl x) = inl ((cell (g.group.children c (kid g e at)) l (requires v)).1 x.0)
      concerned p n g v f l (inr x) = inr ((cell (g.group.children c (kid g e at)) l (posts v)).1 x.0)

      none : (p : Plan) (n : ℕ) → Pairing kids segment order rows p n
          → Every kids segment.start k (NoClobber p n wanted c)
      none p n g = record {
        each = λ x y z v f l t q. h.1.none v f l t
            (concerned p n g v f l (pair_opposite g.group.well_formed q));
      }

  module _ {c : ℕ} {r : Literals} (at : Position segment i) (to : Position segment j) (e : c ≡ get_or kids i 0)
      (w : PairWords kids segment order rows wanted c (get_or kids j 0) r) where
    pub partner_passed : bit_or r.clear r.set ≡ 0 → SearchedTo kids segment order rows wanted i (j + 1)
    partner_passed z = record {
      child = s.child;
      partner = next to;
      before = s.before;
      here = λ p n g. (every_next to.low).0 (
        s.here p n g,
        λ v f l t x. no_flag _ f (word_zero r z v) ((w.says p n g (kid g e at) (kid g refl to) v f l).from (t, rw e x)),
      );
    }

    pub pair_found : bit_or r.clear r.set ≢ 0
        → Stopped kids segment order rows wanted (record { literals = r; at = record { child = i; partner = j } })
    pair_found ne = record {
      among = w.among;
      sound = λ p n g v f l t. (
        _,
        kid g e at,
        (_, kid g refl to, ((w.says p n g (kid g e at) (kid g refl to) v f l).to t).1),
      );
      stands = s;
      some = ne;
    }

  -- all partners of the child at i are passed: on to the next child, and the first partner
  pub child_passed : Position segment i → j ≡ segment.end
      → SearchedTo kids segment order rows wanted (i + 1) segment.start
  child_passed at z = record {
    child = next at;
    partner = record { low = omega arith; high = omega (arith, at.low, at.high) };
    before = λ p n g. (every_next at.low).0 (
      s.before p n g,
      (every_child g.group.listed (λ d hd. (λ x. x, λ x. x))).0 (rw z at (s.here p n g)),
    );
    here = λ p n g. record { each = λ k x y. absurd (omega arith) };
  }

  pub nothing_found : i ≡ segment.end → NoneClobbers kids segment order rows wanted
  nothing_found e p n g = rw e at (s.before p n g)
