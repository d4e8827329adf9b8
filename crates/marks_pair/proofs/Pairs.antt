-- The words of a pair of children say what the pair does. Assumes nothing.
use mathlib.Core.Path.{◌≡◌, refl}
use mathlib.Core.Logic.{◌⊎◌, inl, inr, ◌↔◌}
use mathlib.Core.Bool.{Bool, true, false, not}
use mathlib.Core.List.{List}
use Prim.Native.Nat.{ℕ, ◌+◌, ◌-◌, ◌<◌}
use native.Mathlib.Omega.{arith}
use lib.Bits.{bit_and, bit_or}
use lib.Dec.{T}
use Rattle.base.specs.Bits.{bit}
use Rattle.base.specs.Words.{Says}
use Rattle.base.proofs.Says.{says_map, says_self, says_and, says_or, no_flag}
use Rattle.base.proofs.Words.{or_zero}
use Rattle.runs.specs.Plan.{Plan, Child, Before, Unordered}
use Rattle.runs.specs.WellFormed.{WellFormed}
use Rattle.runs.specs.Summary.{MayClobber}
use Rattle.runs.specs.Pairs.{ClobberByPairs, in_child, unordered_pair, opposed_pair, passed_on}
use Rattle.runs.proofs.Summary.External.{external_pre_with, external_post_with}
use Rattle.tables.specs.declared.Segment.{Segment}
use Rattle.tables.specs.Represents.{code}
use Rattle.marks_row.specs.Columns.{may_pre, may_post, requires, asserts, posts, index_of, first_word, Fact, word_at}
use Rattle.runs.proofs.Plan.Numbers.{opposite}
use Rattle.marks_row.proofs.Rows.{read}
use Rattle.marks_siblings.specs.Siblings.{Apart}
use Rattle.marks_siblings.proofs.Sibling.{apart_is}
use Rattle.marks_row.specs.Musts.{SaysOf}
use Rattle.marks_between.specs.Passing.{Between, OfGroups, PassingWord, Pairing, PairWord, SomePair}
use Rattle.marks_between.proofs.Pair.{no_pair, pair_of, by_before, pass_none, pass_some}
use Rattle.marks_pair.specs.declared.Literals.{Literals}
use Rattle.marks_pair.specs.Pairs.{Opposite, Pair, sign_word, PairWords, Unconcerned}

-- which of the two rules a pair meets, by its order
module _ {p : Plan} {n c d f : ℕ} {v : Bool} where
  passed_pair : Before p d c → ((Fact p d f (may_post (not v)) × Fact p c f (may_pre v)) × Between p n f c d)
      ↔ Pair p n f v c d
  passed_pair q = (λ x. inr (q, x), at)
    where
      at : Pair p n f v c d → (Fact p d f (may_post (not v)) × Fact p c f (may_pre v)) × Between p n f c d
      at (inl x) = absurd (x.0.not_after q)
      at (inr x) = x.1

  apart_pair : Unordered p c d → Opposite p f v c d ↔ Pair p n f v c d
  apart_pair u = (λ x. inl (u, x), at)
    where
      at : Pair p n f v c d → Opposite p f v c d
      at (inl x) = x.1
      at (inr x) = absurd (u.not_after x.0)

  -- whatever the order of the two, c requires the literal and d asserts the opposite, or both leave the flag
  pub pair_opposite : WellFormed p → Pair p n f v c d → Opposite p f v c d
  pair_opposite w (inl x) = x.1
  pair_opposite w (inr x) = inl (external_pre_with p w x.1.0.1, external_post_with p w x.1.0.0)

  unpaired : ¬ Before p d c → ¬ Unordered p c d → ¬ Pair p n f v c d
  unpaired k u (inl x) = u x.0
  unpaired k u (inr x) = k x.0

-- a word for each place where `pair_word` returns
module _ {kids : List ℕ} {segment : Segment} {order rows : List ℕ} {s c d : ℕ} (w x y : ℕ) where
  -- d stands before c: what d may leave, and c may require
  module _ (q : code order d c ≡ 1) (ex : x ≡ word_at rows d (first_word may_post + (1 - s)))
      (ey : y ≡ word_at rows c (first_word may_pre + s)) where
    shared : OfGroups kids segment order rows (λ p n. Child p n c → Child p n d
        → SaysOf s (bit_and x y) (λ f v. Fact p d f (may_post (not v)) × Fact p c f (may_pre v)))
    shared p n g hc hd v e f l = says_and {x = x} {y = y} refl
        (read (g.group.children d hd) (may_post (not v)) (first_word may_post + (1 - s)) x f
        (omega (arith, opposite v s e)) ex l)
        (read (g.group.children c hc) (may_pre v) (first_word may_pre + s) y f (omega (arith, e)) ey l)

    pub none_shared : bit_and w (bit_and x y) ≡ 0 → PairWord Pair kids segment order rows s w c d 0
    none_shared = pass_none w (bit_and x y) false (by_before q) (λ p n b f v. passed_pair b) shared

    pub shared_passes : {r : ℕ} → PassingWord kids segment order rows false (bit_and w (bit_and x y)) c d r
        → PairWord Pair kids segment order rows s w c d r
    shared_passes = pass_some w (bit_and x y) false (by_before q) (λ p n b f v. passed_pair b) shared

  -- c and d are unordered: what c requires and d asserts, what both leave
  pub apart_both : (a b : ℕ) → Apart order c d → x ≡ word_at rows c (first_word requires + s)
      → y ≡ word_at rows d (first_word asserts + (1 - s)) → a ≡ word_at rows c (first_word posts + s)
      → b ≡ word_at rows d (first_word posts + (1 - s))
      → PairWord Pair kids segment order rows s w c d (bit_and w (bit_or (bit_and x y) (bit_and a b)))
  apart_both a b u ex ey ea eb = pair_of w (bit_or (bit_and x y) (bit_and a b))
      (λ p n g hc hd v e f l. let rc = g.group.children c hc in let rd = g.group.children d hd in
      says_map (apart_pair ((apart_is g.orders hc hd).0 u)) (says_or {x = bit_and x y} {y = bit_and a b} refl
      (says_and {x = x} {y = y} refl (read rc (requires v) (first_word requires + s) x f (omega (arith, e)) ex l)
      (read rd (asserts (not v)) (first_word asserts + (1 - s)) y f (omega (arith, opposite v s e)) ey l))
      (says_and {x = a} {y = b} refl (read rc (posts v) (first_word posts + s) a f (omega (arith, e)) ea l)
      (read rd (posts (not v)) (first_word posts + (1 - s)) b f (omega (arith, opposite v s e)) eb l))))

pub neither_rule : {kids : List ℕ} {segment : Segment} {order rows : List ℕ} {s c d : ℕ} (w : ℕ)
    → ¬ (code order d c ≡ 1) → ¬ Apart order c d
    → PairWord Pair kids segment order rows s w c d 0
neither_rule w k u = no_pair w (λ p n g hc hd f v. unpaired
    (λ z. k ((g.orders.before _ _ hd.node hc.node).1 z)) (λ z. u ((apart_is g.orders hc hd).1 z)))

-- both signs of a pair
pub pair_words : {kids : List ℕ} {segment : Segment} {order rows : List ℕ} {c d : ℕ} {wanted r : Literals}
    → PairWord Pair kids segment order rows 0 wanted.clear c d r.clear
    → PairWord Pair kids segment order rows 1 wanted.set c d r.set
    → PairWords kids segment order rows wanted c d r
pair_words {kids} {segment} {order} {rows} {c} {d} {wanted} {r} a b = record { among = among; says = says }
  where
    among : (v : Bool) (f : ℕ) → f < 64 → T (bit (sign_word r v) f) → T (bit (sign_word wanted v) f)
    among false = a.among
    among true = b.among

    says : (p : Plan) (n : ℕ) → Pairing kids segment order rows p n → Child p n c → Child p n d → (v : Bool) (f : ℕ)
        → f < 64
        → Says (sign_word r v) f (T (bit (sign_word wanted v) f) × Pair p n f v c d)
    says p n g hc hd false f l = a.says p n g hc hd false refl f l
    says p n g hc hd true f l = b.says p n g hc hd true refl f l

-- the rule by pairs: a child has it, or some pair
pub by_pairs : (p : Plan) (n f : ℕ) (v : Bool)
    → ClobberByPairs p f v n ↔ (((c : ℕ) × Child p n c × MayClobber p f v c) ⊎ SomePair p n (Pair p n f v))
by_pairs p n f v = (to, back)
  where
    to : ClobberByPairs p f v n → ((c : ℕ) × Child p n c × MayClobber p f v c) ⊎ SomePair p n (Pair p n f v)
    to (in_child c hc x) = inl (c, hc, x)
    to (unordered_pair c d hc hd u x y) = inr (c, hc, (d, hd, inl (u, inl (x, y))))
    to (opposed_pair c d hc hd u x y) = inr (c, hc, (d, hd, inl (u, inr (x, y))))
    to (passed_on c d hc hd q x y z) = inr (c, hc, (d, hd, inr (q, ((x, y), z))))

    pair : (c : ℕ) → Child p n c → (d : ℕ) → Child p n d → Pair p n f v c d → ClobberByPairs p f v n
    pair c hc d hd (inl (u, inl x)) = unordered_pair c d hc hd u x.0 x.1
    pair c hc d hd (inl (u, inr x)) = opposed_pair c d hc hd u x.0 x.1
    pair c hc d hd (inr x) = passed_on c d hc hd x.0 x.1.0.0 x.1.0.1 x.1.1

    back : ((c : ℕ) × Child p n c × MayClobber p f v c) ⊎ SomePair p n (Pair p n f v) → ClobberByPairs p f v n
    back (inl x) = in_child x.0 x.1 x.2
    back (inr x) = pair x.0 x.1 x.2.0 x.2.1 x.2.2

-- c requires or leaves no wanted literal
pub unconcerned : (rows : List ℕ) (wanted : Literals) (c a b x y : ℕ) → a ≡ word_at rows c 11 → b ≡ word_at rows c 15
    → x ≡ word_at rows c 12 → y ≡ word_at rows c 16
    → bit_or (bit_and wanted.clear (bit_or a b)) (bit_and wanted.set (bit_or x y)) ≡ 0 → Unconcerned rows wanted c
unconcerned rows wanted c a b x y ea eb ex ey e = record { none = λ v f l. at v f }
  where
    none : (w s t : ℕ) → bit_and w (bit_or s t) ≡ 0 → (f : ℕ) → T (bit w f) → ¬ (T (bit s f) ⊎ T (bit t f))
    none w s t q f h z = no_flag (bit_and w (bit_or s t)) f q
        ((says_and {x = w} {y = bit_or s t} refl (says_self w f)
        (says_or {x = s} {y = t} refl (says_self s f) (says_self t f))).from (h, z))

    both : (bit_and wanted.clear (bit_or a b) ≡ 0) × (bit_and wanted.set (bit_or x y) ≡ 0)
    both = or_zero (bit_and wanted.clear (bit_or a b)) (bit_and wanted.set (bit_or x y)) e

    at : (v : Bool) (f : ℕ) → T (bit (sign_word wanted v) f)
        → ¬ (T (bit (word_at rows c (index_of (requires v))) f) ⊎ T (bit (word_at rows c (index_of (posts v))) f))
    at false f = rw (ea, eb) at (none wanted.clear a b both.0 f)
    at true f = rw (ex, ey) at (none wanted.set x y both.1 f)
