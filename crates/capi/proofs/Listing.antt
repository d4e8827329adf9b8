-- The listing's answer has a number. Assumes nothing.
use mathlib.Core.Path.{◌≡◌}
use mathlib.Core.Logic.{◌⊎◌, inl, inr}
use mathlib.Core.List.{List}
use Prim.Native.Nat.{ℕ}
use native.Mathlib.Omega.{arith}
use lib.ListN.{length}
use Rattle.plan_rules.specs.Rules.{refusal}
use Rattle.plan_check.proofs.Accepted.{clean}
use Rattle.base.specs.Answers.{refused_or}
use Rattle.base.proofs.First.{both_none}
use Rattle.std.specs.declared.result.Result.{Result}
use Rattle.answers.specs.declared.Refusal.{Refusal}
use Rattle.answers.specs.Refusals.{told}
use Rattle.text_listing.specs.Model.{text_of}
use Rattle.listing.specs.Listing.{listing_refusal, listed_of, Lists}
use Rattle.text_listing.proofs.Text.{text_fits}
use Rattle.listing.proofs.Answers.{said_value}
use Rattle.capi_numbers.specs.Inner.{Short}

module _ (b out : List ℕ) where
  accepted : listing_refusal b out ≡ 0 → refusal b ≡ 0
  unfolding listing_refusal
  accepted e = (both_none (refusal b) _ e).0

  -- a text is shorter than the longest plan
  pub short : {out' : List ℕ} (r : Result ℕ Refusal) → Lists b out r out' → Short (told r)
  unfolding listed_of
  short r l = at (told r) l.returns
    where
      at : (x : ℕ ⊎ ℕ) → x ≡ refused_or (listing_refusal b out) (length (text_of b)) → Short x
      at (inl n) e = tt
      at (inr n) e = let w = said_value (listing_refusal b out) (length (text_of b)) n e in
          omega (arith, w.1, text_fits (clean b (accepted w.0)))
