-- A value made of its three parts is read back as these parts. Assumes nothing.
use mathlib.Core.Path.{◌≡◌, refl}
use Prim.Native.Nat.{ℕ, zero, suc, ◌/◌, ◌%◌, ◌<◌, ◌≤◌}
use native.Mathlib.Omega.{arith}
use native.Mathlib.Decide.{dec_le}
use mathlib.Core.Logic.{by_cases}
use borrow.Author.Tests.{le-leb, lt-leb}
use Rattle.std.specs.Prelude.{Some, None}
use Rattle.plan_codes.specs.declared.value.Condition.{Condition}
use Rattle.plan_codes.specs.Values.{place_of, sign_of, flag_of, value_of}
use Rattle.plan_codes.specs.Cases.{parsed_of, place_at, sign_at, place_num, sign_num, value_num}

pub parse_at : (v flag sign place : ℕ) → v ≡ value_of flag sign place → flag < 64 → sign < 2 → place < 3
    → Some (record { place = place_at place; sign = sign_at sign; flag = flag }) ≡ parsed_of v
unfolding parsed_of place_of sign_of flag_of
parse_at v flag sign place e f s p =
    let p' : v / 128 ≡ place = omega arith in
    let s' : v / 64 % 2 ≡ sign = omega arith in
    let f' : v % 64 ≡ flag = omega arith in
    let l : v ≤ 383 = omega arith in
    simp (le-leb v 383 l, p', s', f')

-- what a value up to 383 says, and the case of one over 383
abbrev pub condition_in : ℕ → Condition
condition_in v = record { place = place_at (place_of v); sign = sign_at (sign_of v); flag = flag_of v }

pub within : (v : ℕ) → v ≤ 383 → parsed_of v ≡ Some (condition_in v)
unfolding parsed_of
within v l = simp (le-leb v 383 l)

pub over : (v : ℕ) → 383 < v → parsed_of v ≡ None
unfolding parsed_of
over v l = simp (lt-leb v 383 l)

place_num_lem : (p : ℕ) → p < 3 → place_num (place_at p) ≡ p
place_num_lem zero l = refl
place_num_lem (suc zero) l = refl
place_num_lem (suc (suc zero)) l = refl
place_num_lem (suc (suc (suc p))) l = absurd (omega arith)

sign_num_lem : (s : ℕ) → s < 2 → sign_num (sign_at s) ≡ s
sign_num_lem zero l = refl
sign_num_lem (suc zero) l = refl
sign_num_lem (suc (suc s)) l = absurd (omega arith)

-- the numbers of its cases
pub place_in : (v : ℕ) → v ≤ 383 → place_num (condition_in v).place ≡ place_of v
unfolding place_of
place_in v l = place_num_lem (v / 128) (omega arith)

pub sign_in : (v : ℕ) → sign_num (condition_in v).sign ≡ sign_of v
unfolding sign_of
sign_in v = sign_num_lem (v / 64 % 2) (omega arith)

-- every value is made up of its parts
pub value_parts : (v : ℕ) → v ≡ value_of (flag_of v) (sign_of v) (place_of v)
unfolding place_of flag_of sign_of
value_parts v = omega arith

-- the numbers of an accepted value's cases make up the value
pub value_back : (v : ℕ) (c : Condition) → parsed_of v ≡ Some c → value_num c ≡ v
value_back v c e =
    by_cases (dec_le v 383)
    (λ (l : v ≤ 383).
    let k : condition_in v ≡ c = cc (within v l) in
    let back : value_num (condition_in v) ≡ v = omega (arith, value_parts v, place_in v l, sign_in v) in
    rw (← k) back)
    (λ l. let z : ◌≡◌ {A = ℕ} 0 1 = cc (over v (omega arith)) in absurd (omega arith))
