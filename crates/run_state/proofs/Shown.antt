-- What the fresh state shows, and that it is well formed. Assumes nothing.
use mathlib.Core.Path.{◌≡◌, refl, ◌∙◌, fun_ext}
use mathlib.Core.Logic.{by_cases, ⊎_elim}
use mathlib.Core.Bool.{Bool, true, false, cond, not, and-false}
use mathlib.Core.List.{List}
use Prim.Native.Nat.{ℕ, ◌+◌, ◌*◌, ◌/◌, ◌<◌, ◌≤◌}
use native.Mathlib.Decide.{dec_lt}
use native.Mathlib.Omega.{arith}
use lib.Dec.{leb}
use borrow.Author.Tests.{eq-eqb, lt-ltb, le-ltb, lt-leb}
use Rattle.base.specs.Answers.{overlay}
use Rattle.base.proofs.Overlay.{length_overlay, at_overlay}
use Rattle.base.specs.Bits.{bit}
use Rattle.base.proofs.Count.{count_none}
use Rattle.run_flags.specs.Flags.{flag_in}
use Rattle.plan_format.specs.Format.{u16_at, node_count, flag_count, start_flag, is_kind}
use Rattle.base.proofs.Booleans.{either, not_passed}
use Rattle.plan_check.specs.Meaning.{plan_of, start_of}
use Rattle.plan_check.proofs.Accepted.{start_below}
use Rattle.runs.specs.Execution.{waiting}
use Rattle.runs.specs.Calls as calls
use Rattle.run_starts.specs.Starts.{node_byte, ordinal_at, ordinal_in, started_in, started_count, stray_ordinal}
use Rattle.run_state.specs.State.{bad_flag, bad_byte, status_at, moves}
use Rattle.run_state.specs.State.{status_in, flag_shown, ordinal_shown, world_of}
use Rattle.run_state.specs.State.{bad_absent, room_refusal_under, state_refusal_under}
use Rattle.runs.specs.Searches.{listed}
use Rattle.runs.specs.Model.Blocked.{stands}
use Rattle.run_state.specs.Fresh.{fresh_byte, fresh_state}
use Rattle.run_state.proofs.Refused.{Roomy, room_passed, room_blocked, state_passed}
use Rattle.run_state.proofs.Well.{Well, from_under}
use Rattle.run_state.proofs.Passed.{moves_node}

module _ (b s : List ℕ) (r : Roomy b s) where
  written : List ℕ
  written = overlay (fresh_byte b) (8 + 3 * node_count b) s

  fresh_flag : (f : ℕ) → f < 64 → flag_in written f ≡ start_flag b f
  unfolding written flag_in bit start_flag fresh_byte
  fresh_flag f l =
      rw (
        at_overlay (fresh_byte b) s (8 + 3 * node_count b) (f / 8) r.room (omega arith),
        lt-ltb (f / 8) 8 (omega arith),
      )

  fresh_node : (n : ℕ) → n < node_count b → node_byte written n ≡ 0
  unfolding written node_byte fresh_byte
  fresh_node n l = at_overlay (fresh_byte b) s (8 + 3 * node_count b) (8 + n) r.room (omega arith)
      ∙ rw (le-ltb (8 + n) 8 (omega arith))

  start_past : (f : ℕ) → flag_count b ≤ f → f < 64 → start_flag b f ≡ false
  start_past f l m = not_passed _ (λ y. omega (arith, start_below b r.plan f m y))

  fresh_ordinal : (n : ℕ) → n < node_count b → ordinal_in b written n ≡ 0
  unfolding written ordinal_in ordinal_at u16_at fresh_byte
  fresh_ordinal n l =
      rw (
        at_overlay (fresh_byte b) s (8 + 3 * node_count b) (8 + node_count b + 2 * n) r.room (omega arith),
        at_overlay (fresh_byte b) s (8 + 3 * node_count b) (8 + node_count b + 2 * n + 1) r.room (omega arith),
        le-ltb (8 + node_count b + 2 * n) 8 (omega arith),
        le-ltb (8 + node_count b + 2 * n + 1) 8 (omega arith),
      )

  none_started : (n : ℕ) → n < node_count b → started_in b written n ≡ false
  unfolding started_in
  none_started n l = rw (fresh_node n l) (and-false (is_kind b n 0))

  no_starts : started_count b written ≡ 0
  unfolding started_count
  no_starts = count_none (node_count b) (started_in b written) none_started

  well_formed : Well b written
  unfolding bad_flag bad_byte stray_ordinal
  well_formed = record {
    flags = λ f l. by_cases (dec_lt f (flag_count b)) (λ (h : f < flag_count b). past f h)
        (λ h. at_start f l (omega arith));
    bytes = small;
    numbers = record { strays = stray; once = λ k l. absurd (omega (arith, no_starts)) };
  }
    where
      past : (f : ℕ) → f < flag_count b → bad_flag b written f ≡ false
      past f h = rw (lt-leb (flag_count b) f h)

      at_start : (f : ℕ) → f < 64 → flag_count b ≤ f → bad_flag b written f ≡ false
      at_start f l h = rw (fresh_flag f l, start_past f h l) (and-false (leb (flag_count b) f))

      alike : (x : Bool) → cond x false false ≡ false
      alike true = refl
      alike false = refl

      small : (n : ℕ) → n < node_count b → bad_byte b written n ≡ false
      small n l = rw (fresh_node n l, alike (is_kind b n 3)) (alike (is_kind b n 0))

      stray : (n : ℕ) → n < node_count b → stray_ordinal b written n ≡ false
      stray n l = rw (none_started n l, fresh_ordinal n l)

  shows_status : (n : ℕ) → status_in b written n ≡ waiting
  unfolding status_in status_at
  shows_status n =
      ⊎_elim
      (λ (e : moves b n ≡ true). rw (e, fresh_node n (moves_node b n e)))
      (λ (e : moves b n ≡ false). rw e)
      (either (moves b n))

  shows_flag : (f : ℕ) → flag_shown written f ≡ start_of b f
  unfolding flag_shown start_of
  shows_flag f =
      by_cases (dec_lt f (flag_count b))
      (λ (l : f < flag_count b). let m : f < 64 = omega (arith, r.plan.fits.limits.flags) in
      rw (lt-ltb f (flag_count b) l, lt-ltb f 64 m) (fresh_flag f m))
      (λ l. rw (le-ltb f (flag_count b) (omega arith))
      (by_cases (dec_lt f 64) (λ (m : f < 64). rw (lt-ltb f 64 m, fresh_flag f m) (start_past f (omega arith) m))
      (λ m. rw (le-ltb f 64 (omega arith)))))

  shows_ordinal : (n : ℕ) → ordinal_shown b written n ≡ 0
  unfolding ordinal_shown
  shows_ordinal n =
      by_cases (dec_lt n (node_count b))
      (λ (l : n < node_count b). rw (lt-ltb n (node_count b) l) (fresh_ordinal n l))
      (λ l. rw (le-ltb n (node_count b) (omega arith)))

  shows : world_of b written ≡ calls.fresh (start_of b)
  unfolding world_of
  shows = cc (fun_ext shows_status, fun_ext shows_flag, no_starts, fun_ext shows_ordinal)

  fresh_absent : (xs : List ℕ) (n : ℕ) → n < node_count b → bad_absent b xs written n ≡ false
  unfolding bad_absent
  fresh_absent xs n l = rw (fresh_node n l) (and-false (not (stands (plan_of b) (listed xs) n)))

-- an accepted call leaves a state that passes all checks and shows the states at the start
pub record Started (b xs s : List ℕ) : Type 0 where
  pub well_formed : state_refusal_under b xs s ≡ 0
  pub at_first : world_of b s ≡ calls.fresh (start_of b)

pub fresh_started : (b xs s : List ℕ) → room_refusal_under b xs s ≡ 0 → Started b xs (fresh_state b xs s)
unfolding fresh_state written
fresh_started b xs s e =
    let r = room_passed b xs s e in
    let w = overlay (fresh_byte b) (8 + 3 * node_count b) s in
    let n = length_overlay (fresh_byte b) s (8 + 3 * node_count b) in
    rw (eq-eqb (room_refusal_under b xs s) 0 e)
    (record {
      well_formed = state_passed b xs w (room_blocked b xs s e) (omega (arith, r.room, n))
          (from_under b xs w (record { well = well_formed b s r; absent = fresh_absent b s r xs }));
      at_first = shows b s r;
    })
