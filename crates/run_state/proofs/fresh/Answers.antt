-- `run_state::fresh` meets its contract. Assumes nothing.
use mathlib.Core.Path.{◌≡◌, sym, ap, ◌∙◌}
use Rattle.std.proofs.lemmas.Result.{err_from_is_err_and}
use Rattle.answers.proofs.Refusals.{some_number}
use mathlib.Core.List.{List, ◌++◌}
use Prim.Native.Nat.{ℕ, ◌+◌, ◌*◌, ◌-◌, ◌≤◌}
use lib.ListN.{length, take, drop, replicate, length-drop}
use Rattle.std.proofs.lemmas.List.{length-append}
use lib.Seq.{length-take-le}
use Rattle.run_state.specs.State.{room_refusal_under}
use Rattle.base.specs.Answers.{overlay}
use Rattle.run_state.specs.Fresh.{fresh_byte}
use Rattle.run_state.proofs.Left.{fresh_refused, fresh_accepted, written}
use Rattle.run_state.proofs.Refused.{Roomy, room_passed}
use native.Mathlib.Omega.{arith}
use Rattle.run_state.proofs.fresh.Goals as goal
use Rattle.run_state.proofs.fresh.Goals.{In_ok-check_room}

passed : (c : In_ok-check_room) → let a = c.args in
    room_refusal_under a.plan.now a.blocked.now a.state.now ≡ 0
passed c = sym c.in_ok-check_room.ensures.returns

enough : (c : In_ok-check_room) → Roomy c.args.plan.now c.args.state.now
enough c = room_passed _ _ _ (passed c)

-- the copy keeps the length
sized : (s ys : List ℕ) → 8 ≤ length s → length ys ≡ length (take 8 s) → length (ys ++ drop 8 s) ≡ length s
sized s ys l e = omega (arith, length-append ys (drop 8 s), length-drop 8 s, length-take-le 8 s l, e)

pub check_room-requires : goal.check_room-requires
check_room-requires c = c.all_nodes-standing.ensures

pub returns-in_err-check_room : goal.returns-in_err-check_room
returns-in_err-check_room c =
    let a = c.args in
    let p = err_from_is_err_and c.from_residual.result c.from_residual.ensures.1 in
    let e = c.in_err-check_room.ensures.returns in
    rw (p.1, p.2) (record {
      returns = e;
      leaves = fresh_refused a.plan.now a.blocked.now a.state.now (λ z. some_number _ (e ∙ z));
    })

pub nodes-requires : goal.nodes-requires
nodes-requires c = (enough (goal.at.nodes-requires c).In_ok-check_room).plan.fits.limits.long

pub overflow_mul-n : goal.overflow_mul-n
overflow_mul-n c = omega (arith, (enough (goal.at.overflow_mul-n c).In_ok-check_room).plan.fits.limits.nodes)

pub overflow_add-n : goal.overflow_add-n
overflow_add-n c = omega (arith, (enough (goal.at.overflow_add-n c).In_ok-check_room).plan.fits.limits.nodes)

pub slice_bounds-copy_from_slice-end : goal.slice_bounds-copy_from_slice-end
slice_bounds-copy_from_slice-end c =
    omega (arith, (enough (goal.at.slice_bounds-copy_from_slice-end c).In_ok-check_room).room)

pub slice_bounds-copy_from_slice-end-2 : goal.slice_bounds-copy_from_slice-end-2
slice_bounds-copy_from_slice-end-2 c =
    let r = enough (goal.at.slice_bounds-copy_from_slice-end-2 c).In_ok-check_room in
    sym (length-take-le 8 c.args.state.now (omega (arith, r.room)))

pub slice_bounds-copy_from_slice-end-3 : goal.slice_bounds-copy_from_slice-end-3
slice_bounds-copy_from_slice-end-3 c =
    omega (arith, (enough (goal.at.slice_bounds-copy_from_slice-end-3 c).In_ok-check_room).plan.fits.limits.long)

pub copy_from_slice-requires : goal.copy_from_slice-requires
copy_from_slice-requires c =
    let r = enough (goal.at.copy_from_slice-requires c).In_ok-check_room in
    length-take-le 8 c.args.state.now (omega (arith, r.room))
    ∙ sym (length-take-le 8 _ (omega (arith, r.plan.fits.limits.long, length-drop 8 c.args.plan.now)))

pub slice_bounds-fill-end : goal.slice_bounds-fill-end
slice_bounds-fill-end c =
    let r = enough (goal.at.slice_bounds-fill-end c).In_ok-check_room in
    let e = sized c.args.state.now _ (omega (arith, r.room)) c.copy_from_slice.ensures.len in
    omega (arith, r.room, e)

pub returns : goal.returns
returns c =
    let p = passed (goal.at.returns c).In_ok-check_room in
    let a = c.args in
    let r = enough (goal.at.returns c).In_ok-check_room in
    let n = 8 + 3 * c.nodes.result in
    let e = sized a.state.now _ (omega (arith, r.room)) c.copy_from_slice.ensures.len in
    let l : n ≤ length a.state.now = rw c.nodes.ensures r.room in
    record {
      returns = sym p;
      leaves = written a.plan.now a.state.now _ _ n (omega arith) l r.plan.fits.limits.long
          c.copy_from_slice.ensures.after
          (c.fill.ensures.after (λ y e. e) ∙ ap (λ (k : ℕ). replicate k 0) (sym c.fill.ensures.len))
          (c.fill.ensures.len ∙ length-take-le (n - 8) (drop 8 (c.copy_from_slice.new.self ++ drop 8 a.state.now))
          (omega (arith, l, e, length-drop 8 (c.copy_from_slice.new.self ++ drop 8 a.state.now))))
          ∙ ap (λ (k : ℕ). overlay (fresh_byte a.plan.now) (8 + 3 * k) a.state.now) c.nodes.ensures
          ∙ fresh_accepted a.plan.now a.blocked.now a.state.now p;
    }
