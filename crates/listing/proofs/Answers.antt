-- What the listing answers; and what is printed, by the listing's answer. Assumes nothing.
use mathlib.Core.Path.{◌≡◌, refl, sym, ap, ◌∙◌}
use mathlib.Core.Logic.{inl, inr, by_cases}
use mathlib.Core.Bool.{cond}
use mathlib.Core.List.{List}
use Prim.Native.Nat.{ℕ, zero, suc, ◌<◌, ◌≤◌}
use native.Mathlib.Decide.{ℕ_discrete}
use native.Mathlib.Omega.{arith}
use lib.Dec.{ltb}
use lib.ListN.{length}
use lib.Seq.{length-take-le}
use borrow.Author.Tests.{lt-ltb, le-ltb, ne_eqb}
use Rattle.base.specs.Answers.{refused_or}
use Rattle.base.proofs.First.{first_some, both_none}
use Rattle.std.specs.declared.result.Result.TheVariants.{Ok, Err}
use Rattle.answers.specs.declared.Refusal.{Refusal}
use Rattle.answers.specs.declared.Refusal.TheVariants.{NoRoom}
use Rattle.answers.specs.Refusals.{number}
use Rattle.answers.proofs.Refusals.{some_number}
use Rattle.plan_rules.proofs.Limit.{refusal_limit}
use Rattle.plan_rules.specs.Rules.{refusal}
use Rattle.text_decimals.specs.Decimals.{written, Wrote}
use Rattle.text_decimals.proofs.Written.{wrote_long, wrote_same}
use Rattle.plan_check.proofs.Accepted.{clean}
use Rattle.text_listing.specs.Model.{text_of}
use Rattle.text_listing.proofs.Text.{text_fits}
use Rattle.text_listing.proofs.Sentences.{listing_is}
use Rattle.listing.specs.Model.{refused_text, printed}
use Rattle.listing.specs.Listing.{listing_refusal, listed_of, listing_left, Lists, Prints}
use Rattle.listing.proofs.Refused.{refusal_is}
use Rattle.listing.proofs.Printed.{refused_length, printed_text, printed_refused}

-- what an answer says of the refusal
pub said_value : {A : Type 0} (r : ℕ) (x v : A) → inr v ≡ refused_or r x → (r ≡ 0) × (v ≡ x)
said_value zero x v e = (refl, cc)
said_value (suc r) x v e = absurd (let z : ◌≡◌ {A = ℕ} 0 1 = cc in omega arith)

said_number : {A : Type 0} (r n : ℕ) (x : A) → inl n ≡ refused_or r x → (n ≡ r) × (r ≡ 0 → ⊥)
said_number zero n x e = absurd (let z : ◌≡◌ {A = ℕ} 0 1 = cc in omega arith)
said_number (suc r) n x e = (cc, λ z. omega arith)

module _ (b out : List ℕ) where
  -- refused for the plan
  refused_first : (refusal b ≡ 0 → ⊥) → listing_refusal b out ≡ refusal b
  unfolding listing_refusal
  refused_first h = sym (first_some (refusal b) (cond (ltb (length out) 2048) 15 0) h)

  refused_short : refusal b ≡ 0 → length out < 2048 → listing_refusal b out ≡ 15
  unfolding listing_refusal
  refused_short e l = rw (e, lt-ltb (length out) 2048 l)

  refused_none : refusal b ≡ 0 → 2048 ≤ length out → listing_refusal b out ≡ 0
  unfolding listing_refusal
  refused_none e l = rw (e, le-ltb (length out) 2048 l)

  refused_is : (r : ℕ) (e : Refusal) → listing_refusal b out ≡ r → number e ≡ r → Lists b out (Err e) out
  unfolding listed_of listing_left
  refused_is zero e q h = absurd (some_number e h)
  refused_is (suc r) e q h = record {
    returns = rw (q, h);
    leaves = rw (q, ne_eqb (suc r) 0 (λ z. omega arith));
    text = listing_is b;
  }

  pub lists_refused : (e : Refusal) → number e ≡ refusal b → Lists b out (Err e) out
  lists_refused e h = refused_is (refusal b) e (refused_first (λ z. some_number e (h ∙ z))) h

  pub lists_short : refusal b ≡ 0 → length out < 2048 → Lists b out (Err NoRoom) out
  lists_short e l = refused_is 15 NoRoom (refused_short e l) refl

  -- accepted
  left_text : listing_refusal b out ≡ 0 → listing_left b out ≡ written out 0 (text_of b)
  unfolding listing_left
  left_text e = rw e

  left_out : (listing_refusal b out ≡ 0 → ⊥) → listing_left b out ≡ out
  unfolding listing_left
  left_out h = rw (ne_eqb (listing_refusal b out) 0 h)

  pub lists_text : {r : ℕ} {out' : List ℕ} → refusal b ≡ 0 → 2048 ≤ length out → Wrote out 0 (text_of b) r out'
      → Lists b out (Ok r) out'
  unfolding listed_of
  lists_text {r} e l w =
      let z = refused_none e l in
      let q : r ≡ length (text_of b) = omega (arith, w.next) in
      record { returns = rw (z, q); leaves = w.bytes ∙ sym (left_text z); text = listing_is b }

  -- ---- what was answered where there is room
  accepted_plan : listing_refusal b out ≡ 0 → refusal b ≡ 0
  unfolding listing_refusal
  accepted_plan e = (both_none (refusal b) (cond (ltb (length out) 2048) 15 0) e).0

  pub text_answered : {r : ℕ} {out' : List ℕ} → Lists b out (Ok r) out' → Wrote out 0 (printed b) r out'
  unfolding listed_of
  text_answered {r} h =
      let w = said_value (listing_refusal b out) (length (text_of b)) r h.returns in
      wrote_same (printed_text b (accepted_plan w.0))
      (record { bytes = h.leaves ∙ left_text w.0; next = omega (arith, w.1) })

  pub refused_answered : {n : ℕ} {e : Refusal} {out' : List ℕ} → n ≡ number e → 2048 ≤ length out
      → Lists b out (Err e) out' → (n ≤ 14) × (refused_text n ≡ printed b) × (out' ≡ out)
  unfolding listed_of
  refused_answered {n} {e} q l h =
      let w = said_number (listing_refusal b out) n (length (text_of b)) (rw q h.returns) in
      let p : refusal b ≡ 0 → ⊥ = λ z. w.1 (refused_none z l) in
      let m : n ≡ refusal b = w.0 ∙ refused_first p in
      (omega (arith, refusal_limit b), ap refused_text m ∙ printed_refused b p, h.leaves ∙ left_out w.1)

-- ---- all that is printed fits too
pub printed_fits : (b : List ℕ) → length (printed b) ≤ 1666
printed_fits b =
    by_cases (ℕ_discrete (refusal b) 0)
    (λ (e : refusal b ≡ 0). rw (← printed_text b e) (text_fits (clean b e)))
    (λ e. rw (← printed_refused b e) (omega (arith, refused_length (refusal b) (refusal_limit b))))

pub prints : (b : List ℕ) {out out' : List ℕ} {r : ℕ} → 2048 ≤ length out → Wrote out 0 (printed b) r out'
    → Prints b out r out'
prints b {out' = out'} {r} l w =
    let f : r ≤ length out' = omega (arith, w.next, wrote_long w, printed_fits b) in
    record {
      wrote = w;
      fits = f;
      counts = sym (length-take-le r out' f);
      text = λ e. rw (← printed_text b e) (listing_is b e);
      refused = λ h. rw (← printed_refused b h) (refusal_is (refusal b));
    }
