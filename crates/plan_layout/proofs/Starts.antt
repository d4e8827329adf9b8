-- The start flags make the bytes that hold them. Assumes nothing.
use mathlib.Core.Path.{◌≡◌}
use mathlib.Core.List.{List}
use Prim.Native.Nat.{ℕ, ◌+◌, ◌*◌, ◌/◌, ◌%◌, ◌<◌}
use native.Mathlib.Omega.{arith}
use lib.ListN.{get_or}
use Rattle.base.specs.Bits.{bit}
use Rattle.base.specs.Bytes.{Bytes}
use Rattle.base.proofs.Words.{same_bits}
use Rattle.plan_format.specs.Format.{start_flag}

-- lists of bytes with the same start flags have the same bytes for them
pub start_bytes : (b c : List ℕ) → Bytes b → Bytes c → ((f : ℕ) → f < 64 → start_flag b f ≡ start_flag c f)
    → (k : ℕ) → k < 8 → get_or b (8 + k) 0 ≡ get_or c (8 + k) 0
unfolding start_flag bit
start_bytes b c x y h k l = same_bits 8 (get_or b (8 + k) 0) (get_or c (8 + k) 0) (x (8 + k)) (y (8 + k)) (λ i n.
    let p : (8 * k + i) / 8 ≡ k = omega arith in
    let q : (8 * k + i) % 8 ≡ i = omega arith in
    rw (p, q) at (h (8 * k + i) (omega arith)))
