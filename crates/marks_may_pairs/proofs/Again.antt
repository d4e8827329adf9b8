-- The search asked again for the literals still wanted, until it finds none. Assumes nothing.
use mathlib.Core.Path.{◌≡◌, refl}
use mathlib.Core.Logic.{◌≢◌, ◌⊎◌, inl, inr, ◌↔◌}
use mathlib.Core.Bool.{Bool, true, false}
use mathlib.Core.List.{List}
use Prim.Native.Nat.{ℕ, ◌+◌, ◌^◌, ◌≤◌, ◌<◌}
use native.Mathlib.Decide.{ℕ_discrete}
use native.Mathlib.Omega.{arith}
use lib.Bits.{bit_and, bit_or, bit_xor}
use lib.Dec.{T}
use Rattle.base.specs.Bits.{bit}
use Rattle.base.specs.Words.{Says}
use Rattle.base.proofs.Says.{says_dec, says_self, says_and, says_or, says_less, no_flag}
use Rattle.base.proofs.Words.{no_bits, less_add}
use Rattle.runs.specs.Plan.{Plan, Child}
use Rattle.tables.specs.declared.Segment.{Segment}
use Rattle.tables.proofs.Segments.{every_child}
use Rattle.marks_between.specs.Passing.{SomePair, Pairing}
use Rattle.marks_may_pairs.specs.declared.Found.{Found}
use Rattle.marks_pair.specs.declared.Literals.{Literals}
use Rattle.marks_pair.specs.Pairs.{Pair, sign_word}
use Rattle.marks_may_pairs.specs.Search.{Unclobbered, SearchedTo, Stopped, NoneClobbers, AllPairs}

-- one literal word more, one less
abbrev pub gained : Literals → Literals → Literals
gained a b = record { clear = bit_or a.clear b.clear; set = bit_or a.set b.set }

abbrev pub lost : Literals → Literals → Literals
lost a b = record {
  clear = bit_xor a.clear (bit_and a.clear b.clear);
  set = bit_xor a.set (bit_and a.set b.set);
}

gained_says : (a b : Literals) (v : Bool) (f : ℕ)
    → Says (sign_word (gained a b) v) f (T (bit (sign_word a v) f) ⊎ T (bit (sign_word b v) f))
gained_says a b false f = says_or {x = a.clear} {y = b.clear} refl (says_self _ f) (says_self _ f)
gained_says a b true f = says_or {x = a.set} {y = b.set} refl (says_self _ f) (says_self _ f)

lost_says : (a b : Literals) (v : Bool) (f : ℕ)
    → Says (sign_word (lost a b) v) f (T (bit (sign_word a v) f) × (¬ T (bit (sign_word b v) f)))
lost_says a b false f = says_less {x = a.clear} {y = b.clear} refl (says_self _ f) (says_self _ f)
lost_says a b true f = says_less {x = a.set} {y = b.set} refl (says_self _ f) (says_self _ f)

-- what no pair passed clobbers, when fewer literals are wanted
fewer_wanted : {kids : List ℕ} {segment : Segment} {order rows : List ℕ} {i j : ℕ} (wanted left : Literals)
    → ((v : Bool) (f : ℕ) → T (bit (sign_word left v) f) → T (bit (sign_word wanted v) f))
    → SearchedTo kids segment order rows wanted i j → SearchedTo kids segment order rows left i j
fewer_wanted wanted left e s = record {
  child = s.child;
  partner = s.partner;
  before = λ p n g. record { each = λ k a b d hd v f l t. (s.before p n g).each k a b d hd v f l (e v f t) };
  here = λ p n g. record { each = λ k a b v f l t. (s.here p n g).each k a b v f l (e v f t) };
}

module _ (kids : List ℕ) (segment : Segment) (order rows : List ℕ) (wanted : Literals) where
  -- the literals still wanted, those found, and where the search stands
  pub record Progress (left found : Literals) (i j : ℕ) : Type 0 where
    pub still : (v : Bool) (f : ℕ) → T (bit (sign_word left v) f)
        ↔ (T (bit (sign_word wanted v) f) × (¬ T (bit (sign_word found v) f)))
    pub sound : (p : Plan) (n : ℕ) → Pairing kids segment order rows p n → (v : Bool) (f : ℕ) → f < 64
        → T (bit (sign_word found v) f)
        → T (bit (sign_word wanted v) f) × SomePair p n (Pair p n f v)
    pub stands : SearchedTo kids segment order rows left i j

  no_literal : (v : Bool) (f : ℕ) → ¬ T (bit (sign_word (record { clear = 0; set = 0 }) v) f)
  no_literal false f t = no_flag 0 f refl t
  no_literal true f t = no_flag 0 f refl t

  pub at_first : segment.start ≤ segment.end
      → Progress wanted (record { clear = 0; set = 0 }) segment.start segment.start
  at_first h = record {
    still = λ v f. (λ t. (t, no_literal v f), λ x. x.0);
    sound = λ p n g v f l t. absurd (no_literal v f t);
    stands = record {
      child = record { low = omega arith; high = h };
      partner = record { low = omega arith; high = h };
      before = λ p n g. record { each = λ k a b. absurd (omega arith) };
      here = λ p n g. record { each = λ k a b. absurd (omega arith) };
    };
  }

  module _ {left found : Literals} {i j : ℕ} (h : Progress left found i j) where
    pub found_more : {next : Found} → Stopped kids segment order rows left next
        → Progress (lost left next.literals) (gained found next.literals) next.at.child next.at.partner
    found_more {next} s = let pair = next.literals in record {
      still = λ v f. (
        λ t. let x = (lost_says left pair v f).to t in let y = (h.still v f).0 x.0 in
            (y.0, λ u. both v f y.1 x.1 ((gained_says found pair v f).to u)),
        λ x. (lost_says left pair v f).from (
          (h.still v f).1 (x.0, λ t. x.1 ((gained_says found pair v f).from (inl t))),
          λ t. x.1 ((gained_says found pair v f).from (inr t)),
        ),
      );
      sound = λ p n g v f l t. at p n g v f l ((gained_says found pair v f).to t);
      stands = fewer_wanted left (lost left pair) (λ v f t. ((lost_says left pair v f).to t).0) s.stands;
    }
      where
        both : (v : Bool) (f : ℕ) → ¬ T (bit (sign_word found v) f) → ¬ T (bit (sign_word next.literals v) f)
            → ¬ (T (bit (sign_word found v) f) ⊎ T (bit (sign_word next.literals v) f))
        both v f k l (inl t) = k t
        both v f k l (inr t) = l t

        at : (p : Plan) (n : ℕ) → Pairing kids segment order rows p n → (v : Bool) (f : ℕ) → f < 64
            → T (bit (sign_word found v) f) ⊎ T (bit (sign_word next.literals v) f)
            → T (bit (sign_word wanted v) f) × SomePair p n (Pair p n f v)
        at p n g v f l (inl t) = h.sound p n g v f l t
        at p n g v f l (inr t) = (((h.still v f).0 (s.among v f l t)).0, s.sound p n g v f l t)

    pub all_found : NoneClobbers kids segment order rows left → AllPairs kids segment order rows wanted found
    all_found none = record {
      says = λ p n g v f l. record {
        to = h.sound p n g v f l;
        from = λ x. at p n g v f l x (says_dec (says_self (sign_word found v) f));
      };
    }
      where
        unclobbered : (p : Plan) (n : ℕ) → Pairing kids segment order rows p n → (c : ℕ) → Child p n c
            → Unclobbered p n left c
        unclobbered p n g = (every_child g.group.listed (λ c hc. (λ x. x, λ x. x))).0 (none p n g)

        at : (p : Plan) (n : ℕ) → Pairing kids segment order rows p n → (v : Bool) (f : ℕ) → f < 64
            → T (bit (sign_word wanted v) f) × SomePair p n (Pair p n f v)
            → Dec (T (bit (sign_word found v) f)) → T (bit (sign_word found v) f)
        at p n g v f l x (yes t) = t
        at p n g v f l x (no k) = absurd
            (unclobbered p n g x.1.0 x.1.1 x.1.2.0 x.1.2.1 v f l ((h.still v f).1 (x.0, k)) x.1.2.2)

-- what is found is taken away: one word less, the other not more
common : (x y : ℕ) → y < 2 ^ 64 → ((f : ℕ) → f < 64 → T (bit y f) → T (bit x f)) → bit_and x y ≡ 0 → y ≡ 0
common x y l h e = no_bits y l (λ f m t. no_flag (bit_and x y) f e
    ((says_and {x = x} {y = y} refl (says_self x f) (says_self y f)).from (h f m t, t)))

pub fewer : (left pair : Literals)
    → ((v : Bool) (f : ℕ) → f < 64 → T (bit (sign_word pair v) f) → T (bit (sign_word left v) f))
    → left.clear < 2 ^ 64 → left.set < 2 ^ 64 → pair.clear < 2 ^ 64 → pair.set < 2 ^ 64
    → bit_or pair.clear pair.set ≢ 0
    → bit_xor left.clear (bit_and left.clear pair.clear) + bit_xor left.set
    (bit_and left.set pair.set) < left.clear + left.set
fewer left pair s a b c d ne = at (ℕ_discrete (bit_and left.clear pair.clear) 0)
    (ℕ_discrete (bit_and left.set pair.set) 0)
  where
    at : Dec (bit_and left.clear pair.clear ≡ 0) → Dec (bit_and left.set pair.set ≡ 0)
        → bit_xor left.clear (bit_and left.clear pair.clear) + bit_xor left.set
        (bit_and left.set pair.set) < left.clear + left.set
    at (yes e) (yes q) = absurd (ne
        (rw (common left.clear pair.clear c (s false) e, common left.set pair.set d (s true) q)))
    at (no k) z = omega (arith, k, less_add left.clear pair.clear a, less_add left.set pair.set b)
    at (yes e) (no k) = omega (arith, k, less_add left.clear pair.clear a, less_add left.set pair.set b)
