-- What is printed, accepted and refused. Assumes nothing.
use mathlib.Core.Path.{◌≡◌, refl}
use mathlib.Core.List.{List, ◌++◌}
use Prim.Native.Nat.{ℕ, ◌≤◌}
use native.Mathlib.Omega.{arith}
use lib.ListN.{length, length-append}
use borrow.Author.Tests.{ne_eqb}
use Rattle.plan_rules.specs.Rules.{refusal}
use Rattle.text_lines.specs.Model.{ending}
use Rattle.text_lines.proofs.Text.{ending_limit}
use Rattle.text_listing.specs.Model.{text_of}
use Rattle.listing.specs.Refused.{refused_letters}
use Rattle.listing.specs.Model.{refused_text, printed}

pub refused_is : (n : ℕ) → refused_letters ++ ending n ≡ refused_text n
unfolding refused_text
refused_is n = refl

pub refused_length : (n : ℕ) → n ≤ 14 → length (refused_text n) ≤ 16
unfolding refused_text
refused_length n l = omega (arith, length-append refused_letters (ending n), ending_limit n (omega arith))

-- ---- what is printed, accepted and refused
module _ (b : List ℕ) where
  pub printed_text : refusal b ≡ 0 → text_of b ≡ printed b
  unfolding printed
  printed_text e = rw e

  pub printed_refused : (refusal b ≡ 0 → ⊥) → refused_text (refusal b) ≡ printed b
  unfolding printed
  printed_refused h = rw (ne_eqb (refusal b) 0 h)
