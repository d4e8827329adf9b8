-- Words of 64 bits: the one of 64 ones, and what a bit says. Definitions only.
use Rattle.std.specs.Prelude.{ℕ, T}
use Rattle.base.specs.Bits.{bit}

abbrev pub ones : ℕ
ones = 18446744073709551615

-- bit f of the word w is set exactly if A holds
pub record Says (w f : ℕ) (A : Type 0) : Type 0 where
  pub to : T (bit w f) → A
  pub from : A → T (bit w f)
