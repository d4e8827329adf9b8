-- `plan_codes::value::value_bad` meets its contract. Assumes nothing.
use Rattle.std.proofs.Common.{rules, arith}
use native.Mathlib.Decide.{dec_le}
use Prim.Native.Nat.{◌≤◌}
use mathlib.Core.Logic.{by_cases}
use borrow.Author.Tests.{le-ltb, lt-ltb}
use Rattle.plan_codes.specs.Values.{value_bad}
use Rattle.plan_codes.proofs.Values.{within, over}
use Rattle.plan_codes.proofs.value.value_bad.Goals as goal

pub returns : goal.returns
unfolding value_bad
returns c =
    by_cases (dec_le c.args.v 383)
    (λ (l : c.args.v ≤ 383). let m = rw (c.parse.ensures, within c.args.v l) at c.is_none_or.ensures in
    rw (le-ltb 383 c.args.v l) (search rules))
    (λ l. let m = rw (c.parse.ensures, over c.args.v (omega arith)) at c.is_none_or.ensures in
    rw (lt-ltb 383 c.args.v (omega arith)) (search rules))
