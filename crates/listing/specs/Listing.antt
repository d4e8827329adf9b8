-- What the listing call answers, and every byte that it leaves. Definitions only.
use Rattle.std.specs.Prelude.{ℕ, ◌≤◌, ◌≡◌, ◌⊎◌, ◌↔◌, cond, List, eqb, ltb, length, take}
use Rattle.base.specs.Answers.{first, refused_or}
use Rattle.std.specs.declared.result.Result.{Result}
use Rattle.answers.specs.declared.Refusal.{Refusal}
use Rattle.answers.specs.Refusals.{told}
use Rattle.plan_rules.specs.Rules.{refusal}
use Rattle.text_decimals.specs.Decimals.{written, Wrote}
use Rattle.text_listing.specs.Model.{text_of}
use Rattle.text_listing.specs.Sentences.{IsListing}
use Rattle.listing.specs.Refused.{IsRefusal}
use Rattle.listing.specs.Model.{printed}

-- 1 to 14; 15: under 2,048 bytes
unfoldable pub listing_refusal : List ℕ → List ℕ → ℕ
listing_refusal b out = first (refusal b) (cond (ltb (length out) 2048) 15 0)

unfoldable pub listed_of : List ℕ → List ℕ → ℕ ⊎ ℕ
listed_of b out = refused_or (listing_refusal b out) (length (text_of b))

-- the bytes after the call: accepted, the text from the first byte, and then what was there; refused, all that was
-- there
unfoldable pub listing_left : List ℕ → List ℕ → List ℕ
listing_left b out = cond (eqb (listing_refusal b out) 0) (written out 0 (text_of b)) out

-- a call answered and left these; 01's words hold of the text of an accepted plan, and of no other
pub record Lists (b out : List ℕ) (r : Result ℕ Refusal) (out' : List ℕ) : Type 0 where
  pub returns : told r ≡ listed_of b out
  pub leaves : out' ≡ listing_left b out
  pub text : refusal b ≡ 0 → (s : List ℕ) → IsListing b s ↔ (s ≡ text_of b)

-- a call wrote all that the program prints from the first byte, and answered how much of out' that is (`counts` follows
-- from `fits`; `&out[..r]` asks for both);
-- 01's words for an accepted plan or a refused one hold of it, and of nothing else
pub record Prints (b out : List ℕ) (r : ℕ) (out' : List ℕ) : Type 0 where
  pub wrote : Wrote out 0 (printed b) r out'
  pub fits : r ≤ length out'
  pub counts : r ≡ length (take r out')
  pub text : refusal b ≡ 0 → (s : List ℕ) → IsListing b s ↔ (s ≡ printed b)
  pub refused : (refusal b ≡ 0 → ⊥) → (s : List ℕ) → IsRefusal (refusal b) s ↔ (s ≡ printed b)
