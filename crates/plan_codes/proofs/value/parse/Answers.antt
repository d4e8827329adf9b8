-- `plan_codes::value::parse` meets its contract. Assumes nothing.
use native.Mathlib.Omega.{arith}
use mathlib.Core.Path.{sym}
use Prim.Native.Nat.{◌-◌}
use Rattle.plan_codes.proofs.Values.{parse_at, over}
use Rattle.plan_codes.proofs.value.parse.Goals as goal

pub returns-in-0-to-63 : goal.returns-in-0-to-63
returns-in-0-to-63 c = let v = c.args.v in parse_at v v 0 0 (omega arith) (omega arith) (omega arith) (omega arith)

pub returns-in-64-to-127 : goal.returns-in-64-to-127
returns-in-64-to-127 c = let v = c.args.v in
    parse_at v (v - 64) 1 0 (omega arith) (omega arith) (omega arith) (omega arith)

pub returns-in-128-to-191 : goal.returns-in-128-to-191
returns-in-128-to-191 c = let v = c.args.v in
    parse_at v (v - 128) 0 1 (omega arith) (omega arith) (omega arith) (omega arith)

pub returns-in-192-to-255 : goal.returns-in-192-to-255
returns-in-192-to-255 c = let v = c.args.v in
    parse_at v (v - 192) 1 1 (omega arith) (omega arith) (omega arith) (omega arith)

pub returns-in-256-to-319 : goal.returns-in-256-to-319
returns-in-256-to-319 c = let v = c.args.v in
    parse_at v (v - 256) 0 2 (omega arith) (omega arith) (omega arith) (omega arith)

pub returns-in-320-to-383 : goal.returns-in-320-to-383
returns-in-320-to-383 c = let v = c.args.v in
    parse_at v (v - 320) 1 2 (omega arith) (omega arith) (omega arith) (omega arith)

pub returns-in_default : goal.returns-in_default
returns-in_default c = sym (over c.args.v (omega arith))
