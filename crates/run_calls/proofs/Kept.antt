-- What lists keep: that a state's flags are bytes, its length, its bytes from 8 + 3N on; and the bytes of a state by
-- what it shows. Assumes nothing.
use mathlib.Core.Path.{◌≡◌, sym, ap, ◌∙◌}
use mathlib.Core.Logic.{by_cases, inl, inr, ⊎_elim}
use mathlib.Core.Bool.{true, false}
use mathlib.Core.List.{List}
use Prim.Native.Nat.{ℕ, ◌+◌, ◌-◌, ◌*◌, ◌/◌, ◌%◌, ◌<◌, ◌≤◌}
use native.Mathlib.Decide.{ℕ_discrete, dec_lt}
use native.Mathlib.Omega.{arith}
use lib.ListN.{length, get_or, take, get_or-eq_default}
use lib.Seq.{ext_get_or, get_or-take, length-take-le}
use borrow.Author.Tests.{eq-eqb, ne_eqb, lt-ltb, le-ltb}
use Rattle.plan_format.specs.Format.{u16_at, node_count, is_kind}
use Rattle.base.proofs.Booleans.{either}
use Rattle.runs.specs.Plan.{place_number}
use Rattle.runs.specs.Execution.{Event, History, node_of, status_of}
use Rattle.runs.specs.Calls.{Call, World}
use Rattle.runs.specs.Numbers.{status_byte}
use Rattle.run_starts.specs.Starts.{node_byte, ordinal_at, ordinal_in, started_in}
use Rattle.run_state.specs.State.{moves, ordinal_shown, world_of, room_refusal_under, state_refusal_under}
use Rattle.run_state.specs.Inner.{state_refusal}
use Rattle.run_state.specs.Fresh.{fresh_byte, fresh_state}
use Rattle.base.specs.Answers.{overlay}
use Rattle.run_state.proofs.Refused.{room_passed}
use Rattle.base.proofs.Overlay.{length_overlay, at_overlay, past_overlay}
use Rattle.run_state.proofs.Left.{fresh_accepted}
use Rattle.run_state.proofs.Passed.{passed, has_room, is_well, byte_rests, byte_optional, byte_shown}
use Rattle.run_starts.proofs.Numbers.{unstarted_none, ordinal_small}
use Rattle.node_sets.specs.One.{only}
use Rattle.run_refusals.specs.Events.{call_refusal}
use Rattle.run_refusals.specs.Inner.{event_place}
use Rattle.run_step.specs.Steps.{after_all}
use Rattle.run_monitor.specs.Events.{Called}
use Rattle.run_monitor.specs.Model.{call_state}
use Rattle.run_monitor.proofs.Events.{Going, nothing, going, goes_under, call_goes}
use Rattle.run_monitor.proofs.Outcomes.{refused_22, accepted}
use Rattle.run_step.proofs.Written.{byte_flags}
use Rattle.run_step.proofs.After.{Fit, after, inside, after_flags, event_written}
use Rattle.run_calls.specs.Shown.{number_byte, shown_byte}
use Rattle.base.specs.Bytes.{Bytes}
use Rattle.run_calls.specs.Demand3.{GroupByte}
use Rattle.run_calls.proofs.Bytes.{flag_byte_lem, made_small}

pub record Kept (b s z : List ℕ) : Type 0 where
  pub small : (k : ℕ) → k < 8 → get_or z k 0 < 256
  pub as_long : length z ≡ length s
  pub later : (k : ℕ) → 8 + 3 * node_count b ≤ k → get_or z k 0 ≡ get_or s k 0

-- ---- fresh
pub fresh_kept : (b xs s : List ℕ) → Bytes b → room_refusal_under b xs s ≡ 0 → Kept b s (fresh_state b xs s)
unfolding fresh_byte
fresh_kept b xs s h e =
    let n = 8 + 3 * node_count b in
    rw (sym (fresh_accepted b xs s e))
    (record {
      small = λ k l. rw (at_overlay (fresh_byte b) s n k (room_passed b xs s e).room (omega arith), lt-ltb k 8 l)
          (h (8 + k));
      as_long = length_overlay (fresh_byte b) s n;
      later = λ k l. past_overlay (fresh_byte b) s n k l;
    })

-- ---- events leave the flags in bytes
abbrev FlagBytes : List ℕ → Type 0
FlagBytes z = (k : ℕ) → k < 8 → get_or z k 0 < 256

module _ (b z : List ℕ) (ok : state_refusal b z ≡ 0) (h : FlagBytes z) (e : Event) where
  eight_long : length (take 8 z) ≡ 8
  eight_long = length-take-le 8 z (omega (arith, (has_room b z ok).room))

  first_small : (i : ℕ) → get_or (take 8 z) i 0 < 256
  first_small i =
      by_cases (dec_lt i 8)
      (λ (l : i < 8). rw (get_or-take 8 z i 0 l) (h i l))
      (λ l. rw (get_or-eq_default (take 8 z) 0 {n = i} (omega (arith, eight_long))) (omega arith))

  written_small : (y : Fit b e) → FlagBytes (after b z ok e y)
  written_small y j m =
      let k = event_place e in
      rw (
        after_flags b z ok e y j m,
        byte_flags b z ok k (node_of e) (status_byte (status_of e)) (inside b z ok e y) j m,
      )
      (made_small b (place_number k) (only (node_of e)) (take 8 z) (omega (arith, eight_long)) first_small j)

-- ---- calls
module _ (b xs z : List ℕ) (under : state_refusal_under b xs z ≡ 0) (h : FlagBytes z) where
  events_small : {es : History} → Going b xs z es → FlagBytes (after_all b z es)
  events_small nothing = h
  events_small (going {e = e} {h = es} g fit st asked) =
      let w = passed b xs (after_all b z es) (goes_under b xs z under g).well_formed in
      rw (event_written b (after_all b z es) w e fit) (written_small b (after_all b z es) w (events_small g) e fit)

  call_small : (c : Call) → FlagBytes (call_state b xs z c)
  call_small c =
      by_cases (ℕ_discrete (call_refusal b xs z c) 0)
      (λ w. rw (sym (accepted b xs z c under w).1) (events_small (call_goes b xs z under c w)))
      (λ n. rw (sym (refused_22 b xs z c under n).1) h)

pub called_kept : {b xs s z z' : List ℕ} {c : Call} {r : ℕ} → state_refusal_under b xs z ≡ 0 → Called b xs z c r z'
    → Kept b s z → Kept b s z'
called_kept {b} {xs} {z = z} {c = c} under x k = record {
  small = rw x.leaves (call_small b xs z under k.small c);
  as_long = x.as_long ∙ k.as_long;
  later = λ i l. x.later i l ∙ k.later i l;
}

-- ---- the bytes of a state are those of what it shows
-- a small number in two bytes
low_byte : (x y : ℕ) → x + 256 * y ≤ 128 → ((x + 256 * y) % 256 ≡ x) × ((x + 256 * y) / 256 ≡ y)
low_byte x y l = (omega arith, omega arith)

module _ (b s z : List ℕ) (ok : state_refusal b z ≡ 0) (h : Kept b s z) where
  group_byte : (n : ℕ) → n < node_count b → is_kind b n 0 ≡ false → GroupByte b z n
  unfolding moves
  group_byte n l y =
      ⊎_elim
      (λ (o : is_kind b n 3 ≡ true). ⊎_elim (λ q. inl q) (λ q. inr (o, q)) (byte_optional b z ok n l o))
      (λ (o : is_kind b n 3 ≡ false). inl (byte_rests b z ok n l (rw (y, o))))
      (either (is_kind b n 3))

  pub group_none : (n : ℕ) → n < node_count b → is_kind b n 0 ≡ false → GroupByte b z n × (ordinal_in b z n ≡ 0)
  unfolding started_in
  group_none n l y = (group_byte n l y, unstarted_none b z (is_well b z ok).numbers n l (rw y))

  -- the two bytes of an ordinal
  number_byte_lem : (k : ℕ) → 8 + node_count b ≤ k → k < 8 + 3 * node_count b
      → number_byte (ordinal_shown b z) (k - (8 + node_count b)) ≡ get_or z k 0
  unfolding number_byte ordinal_shown ordinal_in ordinal_at u16_at
  number_byte_lem k m l =
      let n = (k - (8 + node_count b)) / 2 in
      let i : n < node_count b = omega arith in
      let small : ordinal_in b z n ≤ 128 =
      omega (arith, ordinal_small b z (is_well b z ok).numbers n i, (has_room b z ok).plan.fits.limits.nodes) in
      by_cases (ℕ_discrete ((k - (8 + node_count b)) % 2) 0)
      (λ (e : (k - (8 + node_count b)) % 2 ≡ 0).
      let q : 8 + node_count b + 2 * n ≡ k = omega arith in
      rw (eq-eqb ((k - (8 + node_count b)) % 2) 0 e, lt-ltb n (node_count b) i)
      ((low_byte _ _ small).0 ∙ ap (λ (j : ℕ). get_or z j 0) q))
      (λ e.
      let q : 8 + node_count b + 2 * n + 1 ≡ k = omega arith in
      rw (ne_eqb ((k - (8 + node_count b)) % 2) 0 e, lt-ltb n (node_count b) i)
      ((low_byte _ _ small).1 ∙ ap (λ (j : ℕ). get_or z j 0) q))

  shown_at : (k : ℕ) → k < 8 + 3 * node_count b → shown_byte (node_count b) (world_of b z) k ≡ get_or z k 0
  unfolding shown_byte world_of node_byte
  shown_at k l =
      by_cases (dec_lt k 8)
      (λ (m : k < 8). rw (lt-ltb k 8 m) (flag_byte_lem z k m (h.small k m)))
      (λ m. rw (le-ltb k 8 (omega arith))
      (by_cases (dec_lt k (8 + node_count b))
      (λ (j : k < 8 + node_count b). let q : 8 + (k - 8) ≡ k = omega arith in
      rw (lt-ltb k (8 + node_count b) j) (rw q at (byte_shown b z ok (k - 8) (omega arith))))
      (λ j. rw (le-ltb k (8 + node_count b) (omega arith)) (number_byte_lem k (omega arith) l))))

  pub shown_is : z ≡ overlay (shown_byte (node_count b) (world_of b z)) (8 + 3 * node_count b) s
  shown_is =
      let f = shown_byte (node_count b) (world_of b z) in
      let n = 8 + 3 * node_count b in
      ext_get_or 0 z (overlay f n s) (h.as_long ∙ sym (length_overlay f s n))
      (λ k l.
      by_cases (dec_lt k n)
      (λ (m : k < n). sym (shown_at k m)
      ∙ sym (at_overlay f s n k (omega (arith, h.as_long, (has_room b z ok).room)) m))
      (λ m. h.later k (omega arith) ∙ sym (past_overlay f s n k (omega arith))))

-- bytes that pass all checks, show the same states and keep what s has are the same
pub one_shown : (b xs s y z : List ℕ) → state_refusal_under b xs y ≡ 0 → state_refusal_under b xs z ≡ 0 → Kept b s y
    → Kept b s z → world_of b y ≡ world_of b z → y ≡ z
one_shown b xs s y z p q h k e =
    shown_is b s y (passed b xs y p) h
    ∙ ap (λ (a : World). overlay (shown_byte (node_count b) a) (8 + 3 * node_count b) s) e
    ∙ sym (shown_is b s z (passed b xs z q) k)
