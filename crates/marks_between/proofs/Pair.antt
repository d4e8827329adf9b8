-- The word of a pair of children c, d: the wanted flags of one sign for which the pair has P. Assumes nothing.
use mathlib.Core.Path.{◌≡◌, refl}
use mathlib.Core.Logic.{◌↔◌}
use mathlib.Core.Bool.{Bool}
use mathlib.Core.List.{List}
use Prim.Native.Nat.{ℕ}
use lib.Bits.{bit_and}
use Rattle.base.proofs.Says.{says_map, says_self, says_and, says_none, says_among, no_flag, among_left}
use Rattle.runs.specs.Plan.{Plan, Child, Before}
use Rattle.tables.specs.declared.Segment.{Segment}
use Rattle.tables.specs.Represents.{before_code, after_code, code}
use Rattle.marks_row.specs.Musts.{SaysOf}
use Rattle.marks_between.specs.Passing.{Passes, OfGroups, PassingWord, PairWord}

-- the child d by its position
pub pair_kid : {P : Plan → ℕ → ℕ → Bool → ℕ → ℕ → Type 0} {kids : List ℕ} {segment : Segment} {order rows : List ℕ}
    {s w c d k r : ℕ} → d ≡ k
    → PairWord P kids segment order rows s w c d r → PairWord P kids segment order rows s w c k r
pair_kid e h = rw e at h

module _ {kids : List ℕ} {segment : Segment} {order rows : List ℕ} {c d : ℕ} where
  -- the table of orders has d before c: read at either of the two
  pub by_before : code order d c ≡ before_code
      → OfGroups kids segment order rows (λ p n. Child p n c → Child p n d → Before p d c)
  by_before e p n g hc hd = (g.orders.before d c hd.node hc.node).0 e

  pub by_after : code order c d ≡ after_code
      → OfGroups kids segment order rows (λ p n. Child p n c → Child p n d → Before p d c)
  by_after e p n g hc hd = (g.orders.after c d hc.node hd.node).0 e

module _ {P : Plan → ℕ → ℕ → Bool → ℕ → ℕ → Type 0} {kids : List ℕ} {segment : Segment} {order rows : List ℕ}
    {s c d : ℕ} (w : ℕ) where
  pub no_pair : OfGroups kids segment order rows
      (λ p n. Child p n c → Child p n d → (f : ℕ) (v : Bool) → ¬ P p n f v c d)
      → PairWord P kids segment order rows s w c d 0
  no_pair k = record {
    among = λ f l t. absurd (no_flag 0 f refl t);
    says = λ p n g hc hd v e f l. says_none refl (λ u. k p n g hc hd f v u.1);
  }

  -- a word says for which flags the pair has P
  pub pair_of : (x : ℕ) → OfGroups kids segment order rows
      (λ p n. Child p n c → Child p n d → SaysOf s x (λ f v. P p n f v c d))
      → PairWord P kids segment order rows s w c d (bit_and w x)
  pair_of x h = record {
    among = λ f l t. among_left w x f t;
    says = λ p n g hc hd v e f l. says_and {x = w} {y = x} refl (says_self w f) (h p n g hc hd v e f l);
  }

  -- d stands before c, and a word says for which flags the two share S: of these, those that pass from d to c
  module _ (x : ℕ) (always : Bool) {S : Plan → ℕ → Bool → Type 0}
      (q : OfGroups kids segment order rows (λ p n. Child p n c → Child p n d → Before p d c))
      (pair : (p : Plan) (n : ℕ) → Before p d c → (f : ℕ) (v : Bool)
      → (S p f v × Passes p n f always c d) ↔ P p n f v c d)
      (h : OfGroups kids segment order rows (λ p n. Child p n c → Child p n d → SaysOf s x (S p))) where
    pub pass_none : bit_and w x ≡ 0 → PairWord P kids segment order rows s w c d 0
    pass_none z = record {
      among = λ f l t. absurd (no_flag 0 f refl t);
      says = λ p n g hc hd v e f l. says_none refl
          (λ u. no_flag _ f z ((says_and {x = w} {y = x} refl (says_self w f) (h p n g hc hd v e f l)).from
          (u.0, ((pair p n (q p n g hc hd) f v).1 u.1).0)));
    }

    pub pass_some : {r : ℕ} → PassingWord kids segment order rows always (bit_and w x) c d r
        → PairWord P kids segment order rows s w c d r
    pass_some k = record {
      among = λ f l t. among_left w x f (k.among f l t);
      says = λ p n g hc hd v e f l. let is = pair p n (q p n g hc hd) f v in
          says_map (λ u. (u.0.0, is.0 (u.0.1, u.1)), λ u. let y = is.1 u.1 in ((u.0, y.0), y.1))
          (says_among (says_and {x = w} {y = x} refl (says_self w f) (h p n g hc hd v e f l))
          (k.says p n g hc hd f l));
    }
