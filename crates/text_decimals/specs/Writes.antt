-- What a call writes of a text. Definitions only.
use Rattle.std.specs.Prelude.{ℕ, ◌≡◌, List}
use Rattle.text_decimals.specs.declared.Text.{Text}
use Rattle.text_decimals.specs.Decimals.{Wrote}

-- a call wrote s where the next byte went, and nothing else; the memory is still the one that was lent
pub record Writes (t : Text) (s : List ℕ) (t' : Text) : Type 0 where
  pub same_reference : t'.out.ghost_name ≡ t.out.ghost_name
  pub wrote : Wrote t.out.now t.at s t'.at t'.out.now
