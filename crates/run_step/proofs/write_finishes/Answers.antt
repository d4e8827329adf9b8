-- `write_finishes` meets its contract. Assumes nothing.
use mathlib.Core.Path.{◌≡◌, refl, sym, ap, ◌∙◌}
use mathlib.Core.List.{List, ◌++◌}
use Prim.Native.Nat.{ℕ, ◌+◌, ◌≤◌, ◌<◌}
use lib.ListN.{length, get_or, take, drop, set, length-set}
use Rattle.std.proofs.lemmas.List.{take_all, take_more}
use Rattle.plan_check.proofs.Meaning.{kind_is}
use Rattle.runs.specs.Plan.{post, place_number}
use Rattle.run_state.specs.Made.{made}
use Rattle.run_state.proofs.Passed.{has_room}
use Rattle.runs.specs.Searches.{listed}
use Rattle.node_sets.specs.Sets.{Each}
use Rattle.node_sets.proofs.Lists.{among_at}
use Rattle.run_step.proofs.Finishes.{all_done_of, nothing_done, done_more, all_written}
use borrow.Author.Rules.{rules}
use native.Mathlib.Omega.{arith}
use Rattle.run_step.proofs.write_finishes.Goals as goal
use Rattle.run_step.proofs.write_finishes.Goals.{After-store, Start}

-- the byte of each task is one of the state's
inside : (s : Start) → Each s.args.tasks.now
    (λ t. (t < 128) × (8 + t < length s.args.state.now))
inside s t i =
    let l = (kind_is _ t 0 (s.requires.tasks t i)).0 in
    let r = has_room _ _ s.requires.passed in
    (omega (arith, l, r.plan.fits.limits.nodes), omega (arith, l, r.room))

room : (s : Start) → 8 ≤ length s.args.state.now
room s = omega (arith, (has_room _ _ s.requires.passed).room)

-- what the loop begins with
stored : (c : After-store) → let a = c.args in
    c.store.new.state
    ≡ made a.plan.now (place_number post) (listed a.tasks.now) (take 8 a.state.now) ++ drop 8 a.state.now
stored c = rw (
  c.with_literals-next.ensures,
  c.load.ensures,
  c.mark_all-marks.ensures,
) at c.store.ensures

long : (c : After-store) → length c.store.new.state ≡ length c.args.state.now
long c = search rules

pub loop-t-init : goal.loop-t-init
loop-t-init c = (refl, nothing_done c.store.new.state)

-- the next task
pub overflow_add-state : goal.overflow_add-state
overflow_add-state c = omega (
  arith,
  (inside (goal.at.overflow_add-state c).Start _ (among_at _ c.loop-t.t-index c.loop-t-test.true)).0,
)

pub bounds-state-t : goal.bounds-state-t
bounds-state-t c =
    let p = goal.at.bounds-state-t c in
    omega (
      arith,
      (inside p.Start _ (among_at _ c.loop-t.t-index c.loop-t-test.true)).1,
      c.loop-t.invariant.0,
      long p.After-store,
    )

pub loop-t-preserved : goal.loop-t-preserved
loop-t-preserved c =
    let l = c.loop-t in
    let p = goal.at.loop-t-preserved c in
    let ts = c.args.tasks.now in
    let z = c.store.new.state in (
      length-set l.state _ 2 ∙ l.invariant.0,
      ap (λ (x : List ℕ). take 8 z ++ all_done_of x (drop 8 z)) (take_more ts l.t-index 0 c.loop-t-test.true)
          ∙ done_more z (take l.t-index ts) _ (omega (arith, long p.After-store, room p.Start))
          ∙ ap (λ (x : List ℕ). set x (8 + get_or ts l.t-index 0) 2) l.invariant.1,
    )

pub shape_of-state : goal.shape_of-state
shape_of-state c = c.loop-t.invariant.0 ∙ long (goal.at.shape_of-state c).After-store

pub returns : goal.returns
returns c =
    let l = c.loop-t in
    let p = goal.at.returns c in
    sym (rw (take_all l.t-index c.args.tasks.now (omega arith)) at l.invariant.1)
    ∙ all_written _ _ (has_room _ _ c.requires.passed).accepted (room p.Start) _ c.requires.rises _
    (stored p.After-store)

pub mark_all-marks-requires : goal.mark_all-marks-requires
mark_all-marks-requires c = λ t i. (inside (goal.at.mark_all-marks-requires c).Start t i).0

pub load-requires : goal.load-requires
load-requires c = room (goal.at.load-requires c).Start

pub with_literals-next-requires : goal.with_literals-next-requires
with_literals-next-requires c = (has_room _ _ c.requires.passed).accepted

pub store-requires : goal.store-requires
store-requires c = room (goal.at.store-requires c).Start
