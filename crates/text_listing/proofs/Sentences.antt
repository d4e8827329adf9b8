-- The computed text is the listing that 01 describes, and no other is. Assumes nothing.
use mathlib.Core.Path.{◌≡◌, refl, sym, ap, ◌∙◌}
use mathlib.Core.Logic.{◌↔◌}
use mathlib.Core.List.{List, ◌∷◌, ◌++◌}
use Prim.Native.Nat.{ℕ}
use Rattle.plan_rules.specs.Rules.{refusal}
use Rattle.plan_check.specs.Meaning.{plan_of, start_of}
use Rattle.plan_check.proofs.Accepted.{clean}
use Rattle.plan_check.proofs.Meaning.{means_well_formed}
use Rattle.runs.specs.Verdict.{Verdict}
use Rattle.runs.specs.Model.Verdicts as model
use Rattle.runs.proofs.Verdict.Exact.{verdict_exact}
use Rattle.wait_lengths.specs.Waits.{length_of, wait_within, longest_wait}
use Rattle.wait_lengths.proofs.Sentences.{times, length_one, longest_one}
use Rattle.text_decimals.specs.Model.{decimal}
use Rattle.text_decimals.proofs.Decimals.{plain, plain_only}
use Rattle.text_order.specs.Model.{ranking}
use Rattle.text_order.proofs.Order.{arranged, arranged_node, arranged_only}
use Rattle.text_lines.specs.Model.{lines_of}
use Rattle.text_lines.proofs.Text.{ending_then, task_lines, lines_only}
use Rattle.text_listing.specs.Text.{letters}
use Rattle.text_listing.specs.Model.{first_line, text_of}
use Rattle.text_listing.specs.Sentences.{IsListing}

is_listing : (b : List ℕ) → refusal b ≡ 0 → IsListing b (text_of b)
unfolding text_of first_line
is_listing b e = record {
  verdict = model.verdict (plan_of b) (start_of b);
  judged =
      let v = model.verdict (plan_of b) (start_of b) in
      (verdict_exact (plan_of b) (means_well_formed b e) (start_of b) v).0 refl;
  len = length_of b;
  wait = wait_within b;
  longest = longest_wait b;
  times = times b (clean b e);
  tasks = ranking b;
  arranged = arranged b (clean b e);
  digits = decimal (length_of b 0);
  plain = plain (length_of b 0);
  lines = lines_of b (longest_wait b) (ranking b);
  each = task_lines b (longest_wait b) (ranking b);
  text = ending_then (letters (model.verdict (plan_of b) (start_of b))) (length_of b 0)
      (lines_of b (longest_wait b) (ranking b));
}

-- and no other text is: 01's words leave no byte open
listing_only : {b s : List ℕ} → refusal b ≡ 0 → IsListing b s → s ≡ text_of b
unfolding is_listing
listing_only {b} e h =
    let ok = clean b e in
    let own = is_listing b e in
    let v = (verdict_exact (plan_of b) (means_well_formed b e) (start_of b) h.verdict).1 h.judged in
    let d = plain_only h.plain ∙ ap decimal
    (length_one ok h.times own.times 0 ok.fits.limits.some_node) in
    let w = longest_one ok h.times own.times in
    let l = lines_only (λ u a. w u (arranged_node b h.arranged u a)) h.each
    ∙ ap (lines_of b (longest_wait b)) (arranged_only b ok w h.arranged) in
    h.text
    ∙ ap (λ (u : Verdict). letters u ++ 32 ∷ h.digits ++ 10 ∷ h.lines) (sym v)
    ∙ ap (λ (xs : List ℕ). letters own.verdict ++ 32 ∷ xs ++ 10 ∷ h.lines) d
    ∙ ap (λ (xs : List ℕ). letters own.verdict ++ 32 ∷ own.digits ++ 10 ∷ xs) l
    ∙ sym own.text

pub listing_is : (b : List ℕ) → refusal b ≡ 0 → (s : List ℕ) → IsListing b s ↔ (s ≡ text_of b)
listing_is b e s = (listing_only e, λ q. rw q (is_listing b e))
