-- The text of a listing: how long it can be. Assumes nothing.
use mathlib.Core.Path.{◌≡◌, refl}
use mathlib.Core.List.{List, ◌++◌}
use Prim.Native.Nat.{ℕ, ◌≤◌}
use native.Mathlib.Omega.{arith}
use lib.ListN.{length, length-append}
use Rattle.plan_check.specs.Meaning.{plan_of, start_of}
use Rattle.plan_check.proofs.Accepted.{Clean}
use Rattle.runs.specs.Verdict.{Verdict, CLEAR, DOOMED, OPEN}
use Rattle.runs.specs.Model.Verdicts.{verdict}
use Rattle.wait_lengths.specs.Waits.{length_of, longest_wait}
use Rattle.wait_lengths.proofs.Bounds.{end_limit}
use Rattle.text_order.specs.Model.{ranking}
use Rattle.text_lines.specs.Model.{ending, lines_of}
use Rattle.text_lines.proofs.Text.{ending_limit, lines_limit}
use Rattle.text_listing.specs.Text.{letters}
use Rattle.text_listing.specs.Model.{first_line, text_of}

pub letters_limit : (v : Verdict) → length (letters v) ≤ 6
letters_limit CLEAR = omega arith
letters_limit DOOMED = omega arith
letters_limit OPEN = omega arith

pub root_limit : {b : List ℕ} → Clean b → length (ending (length_of b 0)) ≤ 9
root_limit {b} ok = ending_limit (length_of b 0) (omega (arith, end_limit b ok 0 ok.fits.limits.some_node))

pub text_fits : {b : List ℕ} → Clean b → length (text_of b) ≤ 1666
unfolding text_of first_line
text_fits {b} ok =
    omega (
      arith,
      length-append (first_line b) (lines_of b (longest_wait b) (ranking b)),
      length-append (letters (verdict (plan_of b) (start_of b))) (ending (length_of b 0)),
      letters_limit (verdict (plan_of b) (start_of b)),
      root_limit ok,
      lines_limit ok,
    )

pub text_is : (b : List ℕ) → (letters (verdict (plan_of b) (start_of b)) ++ ending (length_of b 0))
    ++ lines_of b (longest_wait b) (ranking b) ≡ text_of b
unfolding text_of first_line
text_is b = refl
