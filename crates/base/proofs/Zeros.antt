-- A list made of zeros. Assumes nothing.
use Prim.Native.Nat.{ℕ}
use lib.ListN.{replicate, length-replicate, get_or-replicate}
use Rattle.base.specs.Zeros.{Zeros}

pub zeros : (n : ℕ) → Zeros n (replicate n 0)
zeros n = record { long = length-replicate {A = ℕ} n 0; zero = λ j l. get_or-replicate {A = ℕ} n j 0 0 l }
