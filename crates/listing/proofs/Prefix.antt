-- The first 5,137 bytes of an input have the refusal of the whole, and print the same. Assumes nothing.
use mathlib.Core.Path.{◌≡◌, sym, ap, ◌∙◌}
use mathlib.Core.Logic.{⊎_elim, by_cases}
use mathlib.Core.Bool.{true, false}
use mathlib.Core.List.{List}
use Prim.Native.Nat.{ℕ, ◌+◌, ◌<◌, ◌≤◌}
use native.Mathlib.Decide.{dec_lt}
use native.Mathlib.Omega.{arith}
use lib.ListN.{length, take}
use lib.Seq.{get_or-take, length-take-le, take_all}
use Rattle.plan_format.specs.Format.{u16_at, node_count, cond_count, order_count, flag_count, whole_length}
use Rattle.plan_rules.specs.Rules.{refusal, cause2}
use Rattle.base.proofs.Booleans.{either}
use Rattle.plan_rules.proofs.Causes.{limits}
use Rattle.plan_check.proofs.Chain.{second, third}
use Rattle.listing.specs.Model.{refused_text, printed}
use Rattle.listing.proofs.Printed.{printed_refused}

module _ (xs : List ℕ) (long : 5137 < length xs) where
  front : List ℕ
  front = take 5137 xs

  front_length : length front ≡ 5137
  unfolding front
  front_length = length-take-le 5137 xs (omega arith)

  same : (i : ℕ) → i < 16 → u16_at front i ≡ u16_at xs i
  unfolding front u16_at
  same i l = rw (get_or-take 5137 xs i 0 (omega arith), get_or-take 5137 xs (i + 1) 0 (omega arith))

  sizes : cause2 front ≡ cause2 xs
  unfolding cause2 node_count cond_count order_count flag_count
  sizes = rw (same 0 (omega arith), same 2 (omega arith), same 4 (omega arith), same 6 (omega arith))

  length_same : whole_length front ≡ whole_length xs
  unfolding whole_length node_count cond_count order_count
  length_same = rw (same 0 (omega arith), same 2 (omega arith), same 4 (omega arith))

  short : cause2 xs ≡ false → whole_length xs ≤ 5136
  unfolding whole_length
  short e = let l = limits xs (omega arith) e in omega (arith, l.nodes, l.conditions, l.orders)

  -- refused either way, for its sizes or its length
  front_refused : (refusal front ≡ refusal xs) × (refusal xs ≡ 0 → ⊥)
  front_refused = ⊎_elim
      (λ (e : cause2 xs ≡ true).
      let y = second xs (omega arith) e in
      (sym (second front (omega (arith, front_length)) (sizes ∙ e)) ∙ y, λ z. omega arith))
      (λ (e : cause2 xs ≡ false).
      let y = third xs (omega arith) e (λ q. omega (arith, short e)) in (
        sym (third front (omega (arith, front_length)) (sizes ∙ e)
            (λ q. omega (arith, front_length, length_same, short e))) ∙ y,
        λ z. omega arith,
      ))
      (either (cause2 xs))

pub refusal_prefix : (xs : List ℕ) → refusal (take 5137 xs) ≡ refusal xs
unfolding front
refusal_prefix xs =
    by_cases (dec_lt 5137 (length xs)) (λ (l : 5137 < length xs). (front_refused xs l).0)
    (λ l. ap refusal (take_all 5137 xs (omega arith)))

pub printed_prefix : (xs : List ℕ) → printed (take 5137 xs) ≡ printed xs
unfolding front
printed_prefix xs =
    by_cases (dec_lt 5137 (length xs))
    (λ (l : 5137 < length xs).
    let w = front_refused xs l in
    sym (printed_refused (take 5137 xs) (λ z. w.1 (sym w.0 ∙ z))) ∙ ap refused_text w.0
    ∙ printed_refused xs w.1)
    (λ l. ap printed (take_all 5137 xs (omega arith)))
