-- Inner contracts: the value of a condition by the cases of the enums that it is parsed into. Definitions only.
use Rattle.std.specs.Prelude.{ℕ, true, false, cond, eqb, leb, Option, Some, None}
use Rattle.runs.specs.Plan.{pre, inc, post, place_number, sign_number}
use Rattle.plan_codes.specs.declared.value.Place.{Place}
use Rattle.plan_codes.specs.declared.value.Place.TheVariants.{Pre, Inc, Post}
use Rattle.plan_codes.specs.declared.value.Sign.{Sign}
use Rattle.plan_codes.specs.declared.value.Sign.TheVariants.{Clear, Set}
use Rattle.plan_codes.specs.declared.value.Condition.{Condition}
use Rattle.plan_codes.specs.Values.{flag_of, sign_of, place_of, value_of}

-- 01's numbers of the enums' cases
abbrev pub place_num : Place → ℕ
place_num Pre = place_number pre
place_num Inc = place_number inc
place_num Post = place_number post

abbrev pub sign_num : Sign → ℕ
sign_num Clear = sign_number false
sign_num Set = sign_number true

abbrev pub value_num : Condition → ℕ
value_num c = value_of c.flag (sign_num c.sign) (place_num c.place)

-- and the cases of these numbers
abbrev pub place_at : ℕ → Place
place_at p = cond (eqb p 0) Pre (cond (eqb p 1) Inc Post)

abbrev pub sign_at : ℕ → Sign
sign_at s = cond (eqb s 0) Clear Set

-- what a value says; over 383 it is refused
unfoldable pub parsed_of : ℕ → Option Condition
parsed_of v =
    cond (leb v 383)
    (Some (record { place = place_at (place_of v); sign = sign_at (sign_of v); flag = flag_of v })) None
