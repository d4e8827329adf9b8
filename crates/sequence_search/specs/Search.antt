-- The search for a sequence of at most seven children, in words: what the tables say, where a search has come to, and
-- what it finds. Definitions only.
use Rattle.std.specs.Prelude.{◌≡◌, Bool, true, false, not, ℕ, ◌+◌, ◌*◌, ◌^◌, ◌<◌, ◌≤◌, ◌-◌, eqb, get_or, length}
use Rattle.std.proofs.Math.Option.{Option, none, some}
use Rattle.std.specs.declared.option.Option as answer
use Rattle.std.specs.declared.option.Option.TheVariants.{Some, None}
use mathlib.Core.List.{List, Memᴰ as Among}
use Rattle.std.specs.Int.Bits.{bit_and, bit_or, bit_xor}
use Rattle.base.specs.Bits.{bit}
use Rattle.base.specs.Words.{Says}
use Rattle.base.specs.Count.{count_below}
use Rattle.runs.specs.Plan.{Plan, Child, Before}
use Rattle.runs.specs.WellFormed.{WellFormed}
use Rattle.tables.specs.declared.Segment.{Segment}
use Rattle.tables.specs.Segments.{Position, ChildrenOf, AtSegment}
use Rattle.marks_row.specs.Columns.{avoid, may_pre, may_post, word_in, Right}
use Rattle.sequences.specs.Model.{MayBeTrue, DeadEnd, FirstRest}
use Rattle.sequences.specs.Word.{packed}
use Rattle.sequence_search.specs.declared.Reach.{Reach}

-- the children of the root, at most
abbrev pub CHILDREN : ℕ
CHILDREN = 7

-- how many children a segment has, and the one at place i
abbrev pub count : Segment → ℕ
count s = s.end - s.start

abbrev pub child_at : List ℕ → Segment → ℕ → ℕ
child_at kids s i = get_or kids (s.start + i) 0

-- what a search asks, so that no index is out of range
pub record InRange (kids : List ℕ) (s : Segment) : Type 0 where
  pub at : AtSegment kids s
  pub few : count s ≤ CHILDREN

-- the words that the code makes: a child may come next; one child further on
abbrev pub follows_b : List ℕ → ℕ → ℕ → ℕ → Reach → Bool
follows_b rows c mask own r = eqb (bit_or (bit_or (bit_and r.seen own) (bit_xor mask (bit_and mask r.seen)))
    (bit_or (bit_and (word_in rows c (may_pre true)) r.clear) (bit_and (word_in rows c (may_pre false)) r.set))) 0

abbrev pub after : List ℕ → ℕ → ℕ → Reach → Reach
after rows c own r = record {
  left = r.left - 1;
  seen = bit_or r.seen own;
  set = bit_or (word_in rows c (may_post true)) (bit_and (word_in rows c avoid) r.set);
  clear = bit_or (word_in rows c (may_post false)) (bit_and (word_in rows c avoid) r.clear);
}

-- the segment has the root's children, in rising order
pub record RootChildren (p : Plan) (kids : List ℕ) (s : Segment) : Type 0 where
  pub children : ChildrenOf kids s p 0
  pub rising : (i j : ℕ) → Position s i → Position s j → i < j → get_or kids i 0 < get_or kids j 0

-- the tables say what is asked of a plan: the root's children, their rows, and for each place the places of those that
-- stand before
pub record Tabled (p : Plan) (rows kids : List ℕ) (s : Segment) (masks : List ℕ) : Type 0 where
  pub well_formed : WellFormed p
  pub flags : p.conditions.flags ≤ 64
  pub root : RootChildren p kids s
  pub right : (c : ℕ) → Child p 0 c → Right p rows c
  pub before : (i j : ℕ) → i < count s
      → Says (get_or masks i 0) j ((j < count s) × Before p (child_at kids s j) (child_at kids s i))

-- the flags that may have a value
abbrev pub flags_for : Reach → Bool → ℕ
flags_for r true = r.set
flags_for r false = r.clear

-- the search has come to the nodes `seen`, the newest first
pub record ComeTo (p : Plan) (F : ℕ → Bool) (kids : List ℕ) (s : Segment) (seen : List ℕ) (r : Reach) : Type 0 where
  pub places : (i : ℕ) → i < count s → Says r.seen i (Among (child_at kids s i) seen)
  pub left : count_below (count s) (λ i. not (bit r.seen i)) ≡ r.left
  pub may_be : (v : Bool) (f : ℕ) → f < 64 → Says (flags_for r v) f (MayBeTrue p F f v seen)

-- what is found: nothing, or a list of n nodes
pub data Carries (n : ℕ) (r : answer.Option ℕ) : Option (List ℕ) → Type 0 where
  nothing : r ≡ None → Carries n r none
  nodes : {xs : List ℕ} → r ≡ Some (packed xs) → length xs ≡ n → packed xs < 2 ^ (8 * n) → Carries n r (some xs)

-- of every plan that the tables fit, and wherever the search has come to: the first rest after it
abbrev pub Finds : List ℕ → List ℕ → Segment → List ℕ → Reach → answer.Option ℕ → Type 0
Finds rows kids s before r z = (p : Plan) (F : ℕ → Bool) (seen : List ℕ) → Tabled p rows kids s before
    → ComeTo p F kids s seen r → (o : Option (List ℕ)) × FirstRest p F seen o × Carries r.left z o

-- the children at the places below i are dead ends
abbrev pub DeadTo : List ℕ → List ℕ → Segment → List ℕ → Reach → ℕ → Type 0
DeadTo rows kids s before r i = (p : Plan) (F : ℕ → Bool) (seen : List ℕ) → Tabled p rows kids s before
    → ComeTo p F kids s seen r → (j : ℕ) → j < i → DeadEnd p F seen (child_at kids s j)
