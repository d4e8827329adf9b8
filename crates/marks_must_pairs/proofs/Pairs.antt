-- Flags found pair by pair: those already known, and those that a pair must clobber. Assumes nothing.
use mathlib.Core.Path.{◌≡◌, refl}
use mathlib.Core.Logic.{◌⊎◌, inl, inr}
use mathlib.Core.Bool.{Bool, true, not}
use mathlib.Core.List.{List}
use Prim.Native.Nat.{ℕ, ◌+◌, ◌-◌, ◌≤◌, ◌<◌}
use lib.Bits.{bit_and, bit_or, bit_xor}
use lib.Dec.{T}
use lib.ListN.{get_or}
use Rattle.base.specs.Bits.{bit}
use Rattle.base.specs.Words.{ones, Says}
use Rattle.base.proofs.Says.{says_map, says_dec, says_self, says_and, says_or, says_not, no_flag}
use Rattle.runs.specs.Plan.{Plan, Child}
use Rattle.runs.specs.Summary.{Must, ExternalPre, ExternalPost}
use Rattle.tables.specs.declared.Segment.{Segment}
use Rattle.tables.specs.Represents.{code}
use Rattle.tables.specs.Segments.{Some}
use Rattle.marks_row.specs.Musts.{SaysOf, MustPreWord, MustPostWord}
use Rattle.runs.proofs.Plan.Numbers.{opposite}
use Rattle.tables.proofs.Segments.{some_next, some_child}
use Rattle.marks_between.specs.Passing.{OfGroups, PassingWord, Pairing, PairWord}
use Rattle.marks_between.proofs.Pair.{no_pair, by_after, pass_none, pass_some}
use Rattle.marks_must_pairs.specs.MustPairs.{MustPair}

-- a word for each place where `must_pair_word` returns
module _ {kids : List ℕ} {segment : Segment} {order rows : List ℕ} {s c d : ℕ} (w : ℕ) where
  -- d stands before c: what d must leave, and c must require
  module _ (x y : ℕ) (q : code order c d ≡ 2) (ex : MustPostWord rows d (1 - s) x) (ey : MustPreWord rows c s y) where
    shared : OfGroups kids segment order rows (λ p n. Child p n c → Child p n d
        → SaysOf s (bit_and x y) (λ f v. Must p d (ExternalPost p f (not v)) × Must p c (ExternalPre p f v)))
    shared p n g hc hd v e f l = let formed = g.group.well_formed in says_and {x = x} {y = y} refl
        (ex _ formed (g.group.children d hd) (not v) (opposite v s e) f l)
        (ey _ formed hc.node (g.group.children c hc) v e f l)

    pub none_shared : bit_and w (bit_and x y) ≡ 0 → PairWord MustPair kids segment order rows s w c d 0
    none_shared = pass_none w (bit_and x y) true (by_after q) (λ p n b f v. (λ u. (b, u), λ u. u.1)) shared

    pub shared_passes : {r : ℕ} → PassingWord kids segment order rows true (bit_and w (bit_and x y)) c d r
        → PairWord MustPair kids segment order rows s w c d r
    shared_passes = pass_some w (bit_and x y) true (by_after q) (λ p n b f v. (λ u. (b, u), λ u. u.1)) shared

  pub not_before : ¬ (code order c d ≡ 2) → PairWord MustPair kids segment order rows s w c d 0
  not_before k = no_pair w (λ p n g hc hd f v u. k ((g.orders.after _ _ hc.node hd.node).1 u.0))

module _ {p : Plan} {n c f : ℕ} {v : Bool} where
  -- no pair with c adds a flag, if c must not require one that is not yet known
  pub none_new : {known pre : ℕ} → f < 64 → bit_and (bit_xor known ones) pre ≡ 0
      → Says pre f (Must p c (ExternalPre p f v))
      → Says known f (T (bit known f) ⊎ ((d : ℕ) × Child p n d × MustPair p n f v c d))
  none_new {known} {pre} l e s = record { to = inl; from = back (says_dec (says_self known f)) }
    where
      back : Dec (T (bit known f)) → T (bit known f) ⊎ ((d : ℕ) × Child p n d × MustPair p n f v c d) → T (bit known f)
      back (yes t) x = t
      back (no k) (inl t) = t
      back (no k) (inr x) = absurd (no_flag _ f e
          ((says_and {x = bit_xor known ones} {y = pre} refl (says_not {x = known} l refl (says_self known f)) s).from
          (k, x.2.1.0.1)))

-- a pair looked at for the flags not yet known: `flags | word`
pub added : (flags word : ℕ) {r f : ℕ} {Q : Type 0} → f < 64 → r ≡ bit_or flags word
    → Says word f (T (bit (bit_xor flags ones) f) × Q) → Says r f (T (bit flags f) ⊎ Q)
added flags word {r} {f} {Q} l e s =
    says_map (to, back (says_dec (says_self flags f))) (says_or e (says_self flags f) s)
  where
    to : T (bit flags f) ⊎ (T (bit (bit_xor flags ones) f) × Q) → T (bit flags f) ⊎ Q
    to (inl t) = inl t
    to (inr x) = inr x.1

    back : Dec (T (bit flags f)) → T (bit flags f) ⊎ Q → T (bit flags f) ⊎ (T (bit (bit_xor flags ones) f) × Q)
    back (yes t) x = inl t
    back (no k) (inl t) = inl t
    back (no k) (inr q) = inr ((says_not {x = flags} l refl (says_self flags f)).from k, q)

-- the flags already known, and those for which some child so far has Q: one child more, all children
module _ {kids : List ℕ} {low f : ℕ} {Q : ℕ → Type 0} where
  pub child_more : {flags r i : ℕ} {K : Type 0} → low ≤ i → Says flags f (K ⊎ Some kids low i Q)
      → Says r f (T (bit flags f) ⊎ Q (get_or kids i 0))
      → Says r f (K ⊎ Some kids low (i + 1) Q)
  child_more {flags} {r} {i} {K} a h m = says_map (to, back) m
    where
      old : K ⊎ Some kids low i Q → K ⊎ Some kids low (i + 1) Q
      old (inl k) = inl k
      old (inr s) = inr ((some_next a).0 (inl s))

      to : T (bit flags f) ⊎ Q (get_or kids i 0) → K ⊎ Some kids low (i + 1) Q
      to (inl t) = old (h.to t)
      to (inr x) = inr ((some_next a).0 (inr x))

      at : Some kids low i Q ⊎ Q (get_or kids i 0) → T (bit flags f) ⊎ Q (get_or kids i 0)
      at (inl s) = inl (h.from (inr s))
      at (inr x) = inr x

      back : K ⊎ Some kids low (i + 1) Q → T (bit flags f) ⊎ Q (get_or kids i 0)
      back (inl k) = inl (h.from (inl k))
      back (inr s) = at ((some_next a).1 s)

pub all_more : {kids : List ℕ} {segment : Segment} {order rows : List ℕ} {p : Plan} {n : ℕ}
    → Pairing kids segment order rows p n → {w f : ℕ} {K : Type 0} {Q : ℕ → Type 0}
    → Says w f (K ⊎ Some kids segment.start segment.end Q) → Says w f (K ⊎ ((c : ℕ) × Child p n c × Q c))
all_more {kids} {segment} {p = p} {n = n} g {K = K} {Q = Q} s = says_map (to, back) s
  where
    to : K ⊎ Some kids segment.start segment.end Q → K ⊎ ((c : ℕ) × Child p n c × Q c)
    to (inl k) = inl k
    to (inr x) = inr ((some_child g.group.listed (λ d hd. (λ y. y, λ y. y))).0 x)

    back : K ⊎ ((c : ℕ) × Child p n c × Q c) → K ⊎ Some kids segment.start segment.end Q
    back (inl k) = inl k
    back (inr x) = inr ((some_child g.group.listed (λ d hd. (λ y. y, λ y. y))).1 x)
