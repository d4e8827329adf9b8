-- The laws of `Writes`. Assumes nothing.
use mathlib.Core.Path.{◌≡◌, refl, sym, ◌∙◌}
use mathlib.Core.List.{List, [], ◌++◌}
use Prim.Native.Nat.{ℕ}
use native.Mathlib.Omega.{arith}
use lib.ListN.{length}
use Rattle.text_decimals.specs.declared.Text.{Text}
use Rattle.text_decimals.specs.Writes.{Writes}
use Rattle.text_decimals.proofs.Written.{written_none, wrote_long, wrote_then, wrote_same}

pub writes_none : {x : Text} → Writes x [] x
writes_none {x} = record {
  same_reference = refl;
  wrote = record { bytes = sym (written_none x.out.now x.at); next = omega arith };
}

module _ {x y : Text} {s : List ℕ} where
  pub writes_long : Writes x s y → length y.out.now ≡ length x.out.now
  writes_long h = wrote_long h.wrote

  -- one after the other
  pub writes_then : {z : Text} {t : List ℕ} → Writes x s y → Writes y t z → Writes x (s ++ t) z
  writes_then h k = record {
    same_reference = k.same_reference ∙ h.same_reference;
    wrote = wrote_then h.wrote k.wrote;
  }

  -- the same bytes by another name
  pub writes_same : {t : List ℕ} → s ≡ t → Writes x s y → Writes x t y
  writes_same e h = record { same_reference = h.same_reference; wrote = wrote_same e h.wrote }
