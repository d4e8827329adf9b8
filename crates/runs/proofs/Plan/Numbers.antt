-- The numbers of kinds, places and signs. Assumes nothing.
use Rattle.runs.proofs.Base.{◌≡◌, refl, sym, ap, ◌∙◌, Bool, true, false, not, ℕ, zero, suc, ◌<◌, arith}
use Rattle.runs.specs.Plan.{Kind, task, all_of, any_of, optional, Place, pre, inc, post, place_number}
use Rattle.runs.specs.Numbers.{kind_number}
use Rattle.runs.specs.Plan.{sign_number}
use Prim.Native.Nat.{◌-◌}

-- the number of a kind tells it
abbrev of_number : ℕ → Kind
of_number zero = task
of_number (suc zero) = all_of
of_number (suc (suc zero)) = any_of
of_number (suc (suc (suc n))) = optional

number_tells : (k : Kind) → of_number (kind_number k) ≡ k
number_tells task = refl
number_tells all_of = refl
number_tells any_of = refl
number_tells optional = refl

pub kind_inj : (k j : Kind) → kind_number k ≡ kind_number j → k ≡ j
kind_inj k j e = sym (number_tells k) ∙ ap of_number e ∙ number_tells j

pub place_small : (k : Place) → place_number k < 3
place_small pre = omega arith
place_small inc = omega arith
place_small post = omega arith

pub sign_small : (v : Bool) → sign_number v < 2
sign_small true = omega arith
sign_small false = omega arith

pub opposite : (v : Bool) (s : ℕ) → s ≡ sign_number v → 1 - s ≡ sign_number (not v)
opposite true s e = rw e
opposite false s e = rw e
