-- The literals that a pair of children of an all_of group can clobber where no child does. Assumes nothing.
use mathlib.Core.Path.{◌≡◌, refl}
use mathlib.Core.Logic.{◌≢◌, inl, inr, ◌↔◌}
use mathlib.Core.Bool.{Bool, true, false, not}
use mathlib.Core.List.{List}
use Prim.Native.Nat.{ℕ, ◌<◌}
use lib.Bits.{bit_and, bit_or, bit_xor}
use lib.ListN.{get_or}
use Rattle.base.specs.Words.{Says}
use Rattle.base.proofs.Says.{says_map, says_and, says_or, says_less}
use Rattle.runs.specs.Plan.{task, all_of, Place, Plan, Child}
use Rattle.runs.specs.WellFormed.{WellFormed}
use Rattle.runs.specs.Pairs.{TaskWith}
use Rattle.runs.proofs.Reflect.{clash}
use Rattle.marks_row.specs.Columns.{Column, requires, asserts, posts, may_clobber, index_of, Fact}
use Rattle.marks_group.specs.Groups.{Within, WithinRow}
use Rattle.marks_group.proofs.Any.{with_child}
use Rattle.marks_between.specs.Passing.{SomePair}
use Rattle.marks_pair.specs.Pairs.{Opposite, Pair}
use Rattle.marks_pair.proofs.Pairs.{pair_opposite}
use Rattle.marks_tree.specs.Clobbers.{OpenLiterals}

-- the word of a group in a column; the literals of one sign that a task under it requires and one asserts the opposite
-- of, or that are left both ways; of these, those that no child may clobber
abbrev column_of : List ℕ → Column → ℕ
column_of words k = get_or words (index_of k) 0

abbrev opposite_word : List ℕ → Bool → ℕ
opposite_word words v = bit_or (bit_and (column_of words (requires v)) (column_of words (asserts (not v))))
    (bit_and (column_of words (posts false)) (column_of words (posts true)))

abbrev open_word : List ℕ → Bool → ℕ
open_word words v = bit_xor (opposite_word words v) (bit_and (opposite_word words v) (column_of words (may_clobber v)))

open_word_lem : {p : Plan} {n : ℕ} (words : List ℕ) → WithinRow p n words → (v : Bool) (f : ℕ) → f < 64
    → Says (open_word words v) f (Opposite p f v n n × (¬ Within p n f (may_clobber v)))
open_word_lem {p} {n} words h v f l = says_less {x = opposite_word words v} {y = column_of words (may_clobber v)} refl
    (says_or {x = bit_and (column_of words (requires v)) (column_of words (asserts (not v)))}
    {y = bit_and (column_of words (posts false)) (column_of words (posts true))} refl
    (says_and {x = column_of words (requires v)} {y = column_of words (asserts (not v))} refl
    (h.says (requires v) f l) (h.says (asserts (not v)) f l))
    (says_map (both v) (says_and {x = column_of words (posts false)} {y = column_of words (posts true)} refl
    (h.says (posts false) f l) (h.says (posts true) f l)))) (h.says (may_clobber v) f l)
  where
    both : (v : Bool) → (Fact p n f (posts false) × Fact p n f (posts true))
        ↔ (Fact p n f (posts v) × Fact p n f (posts (not v)))
    both false = (λ x. x, λ x. x)
    both true = (λ x. (x.1, x.0), λ x. (x.1, x.0))

pub open_says : (words : List ℕ) → OpenLiterals words (record {
  clear = open_word words false;
  set = open_word words true;
})
open_says words p n h false f l = open_word_lem words h false f l
open_says words p n h true f l = open_word_lem words h true f l

-- every literal that some pair of children clobbers is one of these
module _ (p : Plan) (w : WellFormed p) {n : ℕ} (kn : p.tree.kind n ≡ all_of) (f : ℕ) (v : Bool) where
  above : {i j : Place} {u : Bool} {c : ℕ} → Child p n c → TaskWith p i j f u c → TaskWith p i j f u n
  above {i} {j} {u} {c} hc x = (with_child p w not_task i j f u).1 (c, hc, x)
    where
      not_task : p.tree.kind n ≢ task
      not_task e = clash cc

  pub pair_open : SomePair p n (Pair p n f v) → Opposite p f v n n
  pair_open (c, hc, (d, hd, q)) = at (pair_opposite w q)
    where
      at : Opposite p f v c d → Opposite p f v n n
      at (inl x) = inl (above hc x.0, above hd x.1)
      at (inr x) = inr (above hc x.0, above hd x.1)
