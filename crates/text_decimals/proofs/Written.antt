-- The laws of `written`. Assumes nothing.
use mathlib.Core.Path.{◌≡◌, refl, sym, ap, ◌∙◌}
use mathlib.Core.List.{List, [], ◌∷◌, ◌++◌, append_assoc}
use Prim.Native.Nat.{ℕ, suc, ◌+◌, ◌≤◌}
use native.Mathlib.Omega.{arith}
use lib.ListN.{length, set, take, drop, length-append}
use lib.Seq.{length-sets, sets-eq}
use Rattle.std.proofs.lemmas.List.{drop-drop}
use borrow.Rule.Slice.PartMut.{put_mid}
use Rattle.text_decimals.specs.Decimals.{written, Wrote}

pub written_none : (out : List ℕ) (at : ℕ) → written out at [] ≡ out
unfolding written
written_none out at = refl

pub written_one : (out : List ℕ) (at x : ℕ) → set out at x ≡ written out at (x ∷ [])
unfolding written
written_one out at x = refl

pub length_written : (out : List ℕ) (at : ℕ) (s : List ℕ) → length (written out at s) ≡ length out
unfolding written
length_written out at s = length-sets out at s

-- first s, and t after it
pub written_append : (s t out : List ℕ) (at : ℕ)
    → written (written out at s) (at + length s) t ≡ written out at (s ++ t)
unfolding written
written_append [] t out at = let e : at + 0 ≡ at = omega arith in rw e
written_append (x ∷ s) t out at =
    let e : at + suc (length s) ≡ suc at + length s = omega arith in
    rw e (written_append s t (set out at x) (suc at))

-- what is before it and what is past it stay
pub written_is : (out : List ℕ) (at : ℕ) (s : List ℕ) → at + length s ≤ length out
    → written out at s ≡ take at out ++ s ++ drop (at + length s) out
unfolding written
written_is out at s h = sets-eq s out at h

module _ {out out' : List ℕ} {at r : ℕ} {s : List ℕ} where
  pub wrote_long : Wrote out at s r out' → length out' ≡ length out
  wrote_long h = ap length h.bytes ∙ length_written out at s

  -- one after the other
  pub wrote_then : {out'' t : List ℕ} {r' : ℕ} → Wrote out at s r out' → Wrote out' r t r' out''
      → Wrote out at (s ++ t) r' out''
  wrote_then {t = t} h k = record {
    bytes = k.bytes ∙ ap (λ (o : List ℕ). written o r t) h.bytes
        ∙ ap (λ (a : ℕ). written (written out at s) a t) h.next ∙ written_append s t out at;
    next = omega (arith, k.next, h.next, length-append s t);
  }

pub wrote_one : {out : List ℕ} {at x : ℕ} → Wrote out at (x ∷ []) (at + 1) (set out at x)
wrote_one {out} {at} {x} = record { bytes = written_one out at x; next = refl }

-- the same bytes by another name
pub wrote_same : {out out' s t : List ℕ} {at r : ℕ} → s ≡ t → Wrote out at s r out' → Wrote out at t r out'
wrote_same e h = rw e at h

-- s copied over a part of out
pub wrote_over : {out s t : List ℕ} {at k : ℕ} → at + length s ≤ length out → k ≡ length s → t ≡ s
    → Wrote out at s (at + length s) (put_mid at k out t)
wrote_over {out} {s} {at = at} l e f = record {
  bytes = rw (e, f, drop-drop, ← append_assoc) (sym (written_is out at s l));
  next = refl;
}
