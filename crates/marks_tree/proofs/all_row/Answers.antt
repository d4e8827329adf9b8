-- `all_row` meets its contract, by the law of an all-of group's row. Assumes nothing.
use mathlib.Core.Bool.{Bool, true, false}
use mathlib.Core.Logic.{◌⊎◌}
use mathlib.Core.Path.{refl}
use Prim.Native.Nat.{ℕ, ◌<◌}
use lib.Dec.{T}
use lib.ListN.{get_or}
use Rattle.base.specs.Bits.{bit}
use Rattle.base.specs.Words.{Says}
use Rattle.marks_between.specs.Passing.{SomePair}
use Rattle.marks_pair.specs.Pairs.{sign_word}
use Rattle.marks_pair.specs.declared.Literals.{Literals}
use Rattle.marks_must_pairs.specs.MustPairs.{MustPair}
use Rattle.marks_tree.proofs.AllRow.{all_row}
use Rattle.marks_tree.proofs.all_row.Goals as goal

-- what holds of either sign holds of both
by_sign : (P : Bool → Type 0) → P false → P true → (v : Bool) → P v
by_sign P a b false = a
by_sign P a b true = b

pub returns : goal.returns
returns c =
    let words = c.all_words-words.result in
    let must : Literals = record { clear = c.must_pairs-clear.result; set = c.must_pairs-set.result } in
    let known : Literals = record { clear = get_or words 21 0; set = get_or words 22 0 } in
    λ p n g kn. all_row g.group.well_formed kn
    (c.all_words-words.ensures p n g.group g.orders kn)
    c.open_literals-wanted.ensures
    (c.clobbering_pairs-may.ensures.says p n g)
    (by_sign
    (λ v. (f : ℕ) → f < 64
    → Says (sign_word must v) f (T (bit (sign_word known v) f) ⊎ SomePair p n (MustPair p n f v)))
    (c.must_pairs-clear.ensures p n g false refl)
    (c.must_pairs-set.ensures p n g true refl))
    c.clobber_words-clobbers.ensures c.ored.ensures
