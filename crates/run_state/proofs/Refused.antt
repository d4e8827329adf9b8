-- The chain of refusals 1 to 16, forwards and backwards. Assumes nothing.
use mathlib.Core.Path.{◌≡◌, refl, ◌∙◌}
use mathlib.Core.Bool.{Bool, true, false, ◌&&◌, ◌||◌}
use mathlib.Core.List.{List}
use Prim.Native.Nat.{ℕ, ◌+◌, ◌*◌, ◌<◌, ◌≤◌}
use lib.ListN.{length, take}
use lib.Dec.{leb}
use borrow.Author.Tests.{lt-ltb, le-ltb, ltb-false}
use Rattle.answers.specs.declared.Refusal.{Refusal}
use Rattle.answers.specs.declared.Refusal.TheVariants.{NoRoom, Malformed}
use Rattle.answers.specs.Refusals.{number}
use Rattle.answers.proofs.Refusals.{some_number}
use Rattle.base.proofs.First.{first_some, both_none, check_passed}
use Rattle.run_flags.specs.Flags.{flag_in}
use Rattle.run_flags.proofs.EachFlag.{in_first}
use Rattle.plan_format.specs.Format.{node_count, flag_count}
use Rattle.plan_rules.specs.Rules.{refusal}
use Rattle.runs.specs.Searches.{any_below, listed}
use Rattle.plan_check.proofs.Accepted.{Clean, clean}
use Rattle.plan_blocked.specs.Blocked.{refusal_under}
use Rattle.plan_blocked.specs.Inner.{Standing}
use Rattle.plan_blocked.proofs.Refused.{plan_accepted}
use Rattle.runs.proofs.Searches.{some_same}
use Rattle.run_starts.specs.Starts.{stray_ordinal, misnumbered}
use Rattle.run_starts.specs.Inner.{StateFits}
use Rattle.run_state.specs.State.{bad_absent, malformed_under, room_refusal_under, state_refusal_under}
use Rattle.run_state.specs.Inner.{bad_byte_in, bad_node_in, StateChecked}
use Rattle.run_state.specs.State.{too_short, bad_flag, bad_byte, bad_node}

-- what a call that passes 1 to 15 may rest on
module _ (b s : List ℕ) where
  pub record Roomy : Type 0 where
    pub accepted : refusal b ≡ 0
    pub plan : Clean b
    pub room : 8 + 3 * node_count b ≤ length s

  pub fits : Roomy → StateFits b s
  fits r = record { plan = r.plan.fits; room = r.room }

-- a byte or an ordinal, or, in another order, an ordinal or a byte
turned : (x y z : Bool) → ((x || y) || z) ≡ ((x || z) || y)
turned true y z = refl
turned false true true = refl
turned false true false = refl
turned false false true = refl
turned false false false = refl

module _ {b xs : List ℕ} {q : ℕ} {table : List ℕ} where
  refused : (e : Refusal) → number e ≡ q → StateChecked b xs q (number e) table
  refused e z = record { returns = z; standing = λ y. absurd (some_number e y) }

  passes : 0 ≡ q → Standing b (listed xs) table → StateChecked b xs q 0 table
  passes z h = record { returns = z; standing = λ y. h }

module _ (b xs s : List ℕ) where
  pub room_refused : {table : List ℕ} (e : Refusal) → number e ≡ refusal_under b xs
      → StateChecked b xs (room_refusal_under b xs s) (number e) table
  unfolding room_refusal_under
  room_refused e q = refused e (q ∙ first_some (refusal_under b xs) _ (λ z. some_number e (q ∙ z)))

  pub room_short : {table : List ℕ} → refusal_under b xs ≡ 0 → length s < 8 + 3 * node_count b
      → StateChecked b xs (room_refusal_under b xs s) 15 table
  unfolding room_refusal_under too_short
  room_short e l = refused NoRoom (simp (e, lt-ltb _ _ l))

  pub room_enough : refusal_under b xs ≡ 0 → 8 + 3 * node_count b ≤ length s → 0 ≡ room_refusal_under b xs s
  unfolding room_refusal_under too_short
  room_enough e l = simp (e, le-ltb _ _ l)

  pub room_long : {table : List ℕ} → refusal_under b xs ≡ 0 → 8 + 3 * node_count b ≤ length s
      → Standing b (listed xs) table → StateChecked b xs (room_refusal_under b xs s) 0 table
  room_long e l h = passes (room_enough e l) h

  pub state_refused : {table : List ℕ} (e : Refusal) → number e ≡ room_refusal_under b xs s
      → StateChecked b xs (state_refusal_under b xs s) (number e) table
  unfolding state_refusal_under
  state_refused e q = refused e (q ∙ first_some (room_refusal_under b xs s) _ (λ z. some_number e (q ∙ z)))

  pub state_bad : {table : List ℕ} → room_refusal_under b xs s ≡ 0 → malformed_under b xs s ≡ true
      → StateChecked b xs (state_refusal_under b xs s) 16 table
  unfolding state_refusal_under
  state_bad e m = refused Malformed (simp (e, m))

  pub state_good : {table : List ℕ} → room_refusal_under b xs s ≡ 0 → malformed_under b xs s ≡ false
      → Standing b (listed xs) table → StateChecked b xs (state_refusal_under b xs s) 0 table
  unfolding state_refusal_under
  state_good e m h = passes (simp (e, m)) h

  pub state_passed : refusal_under b xs ≡ 0 → 8 + 3 * node_count b ≤ length s → malformed_under b xs s ≡ false
      → state_refusal_under b xs s ≡ 0
  unfolding state_refusal_under room_refusal_under too_short
  state_passed e l m = simp (e, le-ltb _ _ l, m)

  pub room_passed : room_refusal_under b xs s ≡ 0 → Roomy b s
  unfolding room_refusal_under too_short
  room_passed e =
      let w = both_none (refusal_under b xs) _ e in
      let ok = plan_accepted b xs w.0 in
      record { accepted = ok; plan = clean b ok; room = ltb-false _ _ (check_passed _ 14 0 w.1).0 }

  pub room_blocked : room_refusal_under b xs s ≡ 0 → refusal_under b xs ≡ 0
  unfolding room_refusal_under
  room_blocked e = (both_none (refusal_under b xs) _ e).0

  pub state_room_under : state_refusal_under b xs s ≡ 0 → room_refusal_under b xs s ≡ 0
  unfolding state_refusal_under
  state_room_under e = (both_none (room_refusal_under b xs s) _ e).0

  pub state_well_under : state_refusal_under b xs s ≡ 0 → malformed_under b xs s ≡ false
  unfolding state_refusal_under
  state_well_under e = (check_passed _ 15 0 (both_none (room_refusal_under b xs s) _ e).1).0

  -- 16 by the table
  node_in : {table : List ℕ} (n : ℕ) → n < node_count b → Standing b (listed xs) table
      → bad_node_in b table s n ≡ (bad_node b s n || bad_absent b xs s n)
  unfolding bad_node_in bad_byte_in bad_node bad_absent
  node_in n l h = rw (h.is n l) (turned (bad_byte b s n) _ (stray_ordinal b s n))

  pub bad_parts : {table : List ℕ} → Standing b (listed xs) table → (x y z : Bool) → x ≡ any_below 64 (bad_flag b s)
      → y ≡ any_below (node_count b) (bad_node_in b table s) → z ≡ misnumbered b s
      → (x || y || z) ≡ malformed_under b xs s
  unfolding malformed_under
  bad_parts {table} h x y z ex ey ez = rw (ex, ey, ez, some_same (node_count b) (bad_node_in b table s) _ at)
    where
      at : (n : ℕ) → n < node_count b → bad_node_in b table s n ≡ (bad_node b s n || bad_absent b xs s n)
      at n l = node_in n l h

-- a flag's test by the bytes that were loaded
pub flag_bad : (b s bytes : List ℕ) (v f : ℕ) (h : Bool) → v ≡ flag_count b → bytes ≡ take 8 s → h ≡ flag_in bytes f
    → f < 64 → (leb v f && h) ≡ bad_flag b s f
unfolding bad_flag
flag_bad b s bytes v f h ev eb eh l = rw (ev, eh, eb, in_first s f l)
