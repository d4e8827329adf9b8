-- All that the program prints, computed. Definitions only.
use Rattle.std.specs.Prelude.{ℕ, cond, List, ◌++◌, eqb}
use Rattle.plan_rules.specs.Rules.{refusal}
use Rattle.text_lines.specs.Model.{ending}
use Rattle.text_listing.specs.Model.{text_of}
use Rattle.listing.specs.Refused.{refused_letters}

-- REFUSED, space, number, byte 10
unfoldable pub refused_text : ℕ → List ℕ
refused_text n = refused_letters ++ ending n

-- what the program prints
unfoldable pub printed : List ℕ → List ℕ
printed b = cond (eqb (refusal b) 0) (text_of b) (refused_text (refusal b))
