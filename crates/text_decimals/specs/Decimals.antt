-- Plain decimals, and bytes written one after another. Definitions only.
use Rattle.std.specs.Prelude.{ℕ, ◌+◌, ◌-◌, ◌*◌, ◌<◌, ◌≤◌, ◌≡◌, List, [], ◌∷◌, length, get_or}
use Rattle.std.proofs.lemmas.List.Edits.{sets}

-- out with the bytes s written from position at on
unfoldable pub written : List ℕ → ℕ → List ℕ → List ℕ
written out at s = sets out at s

-- a call wrote s there, and nothing else, and answered where the next byte goes
pub record Wrote (out : List ℕ) (at : ℕ) (s : List ℕ) (r : ℕ) (out' : List ℕ) : Type 0 where
  pub bytes : out' ≡ written out at s
  pub next : r ≡ at + length s

-- ---- plain decimals, as what is written of a number
-- the bytes are digits (48 to 57)
abbrev pub Digits : List ℕ → Type 0
Digits s = (i : ℕ) → i < length s → (48 ≤ get_or s i 0) × (get_or s i 0 ≤ 57)

-- the number that digits name, read from the left, with v before them
unfoldable pub value_from : ℕ → List ℕ → ℕ
value_from v [] = v
value_from v (x ∷ s) = value_from (10 * v + (x - 48)) s

-- s is n in plain decimals: digits, at least one, that name n; the first is 0 only where it is the only one
pub record Plain (n : ℕ) (s : List ℕ) : Type 0 where
  pub some : 0 < length s
  pub digits : Digits s
  pub value : value_from 0 s ≡ n
  pub no_leading_zero : get_or s 0 0 ≡ 48 → length s ≡ 1
