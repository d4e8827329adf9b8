-- The computed text of a refusal is the one that 01 describes, and no other is. Assumes nothing.
use mathlib.Core.Path.{◌≡◌, sym, ap, ◌∙◌}
use mathlib.Core.Logic.{◌↔◌}
use mathlib.Core.List.{List, [], ◌∷◌, ◌++◌, append-nil}
use Prim.Native.Nat.{ℕ}
use Rattle.text_decimals.specs.Model.{decimal}
use Rattle.text_decimals.proofs.Decimals.{plain, plain_only}
use Rattle.text_lines.specs.Model.{ending}
use Rattle.text_lines.proofs.Text.{ending_then}
use Rattle.listing.specs.Refused.{refused_letters, IsRefusal}
use Rattle.listing.specs.Model.{refused_text}

is_refusal : (n : ℕ) → IsRefusal n (refused_text n)
unfolding refused_text
is_refusal n = record {
  digits = decimal n;
  plain = plain n;
  text = sym (append-nil (refused_letters ++ ending n))
      ∙ ending_then refused_letters n [];
}

refusal_only : {n : ℕ} {s : List ℕ} → IsRefusal n s → s ≡ refused_text n
unfolding is_refusal
refusal_only {n} h = h.text ∙ ap (λ (xs : List ℕ). refused_letters ++ 32 ∷ xs ++ 10 ∷ []) (plain_only h.plain)
    ∙ sym (is_refusal n).text

pub refusal_is : (n : ℕ) (s : List ℕ) → IsRefusal n s ↔ (s ≡ refused_text n)
refusal_is n s = (refusal_only, λ q. rw q (is_refusal n))
