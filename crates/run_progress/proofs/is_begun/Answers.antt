-- `run_progress::is_begun` meets its contract. Assumes nothing.
use mathlib.Core.Path.{◌≡◌, ap, ◌∙◌}
use mathlib.Core.Bool.{not, ◌||◌}
use Prim.Native.Nat.{ℕ, ◌+◌, ◌<◌}
use native.Mathlib.Omega.{arith}
use lib.Dec.{eqb}
use lib.ListN.{get_or}
use borrow.Author.Tests.{eq-eqb, ne_eqb}
use Rattle.plan_check.specs.Meaning.{plan_of}
use Rattle.runs.specs.Model.Monitor.{begun_b}
use Rattle.run_starts.specs.Starts.{node_byte}
use Rattle.run_state.specs.State.{status_in}
use Rattle.run_state.proofs.Passed.{node_small, byte_inside}
use Rattle.run_progress.proofs.Progress.{node_begun}
use Rattle.run_progress.proofs.is_begun.Goals as goal
use Rattle.run_progress.proofs.is_begun.Goals.{Start}

small : (c : Start) → c.args.n < 128
small c = node_small _ _ c.requires.1.0 _ c.requires.0

pub overflow_add-n : goal.overflow_add-n
overflow_add-n c = omega (arith, small c)

pub bounds-state-n : goal.bounds-state-n
bounds-state-n c = byte_inside _ _ c.requires.1.0 _ c.requires.0

pub bounds-begun-n : goal.bounds-begun-n
bounds-begun-n c = small (goal.at.bounds-begun-n c).Start

begun : (c : Start) → let a = c.args in
    not (eqb (get_or a.state.now (8 + a.n) 0) 0) || not (eqb (get_or a.begun.now a.n 0) 0)
    ≡ begun_b (plan_of a.plan.now) (status_in a.plan.now a.state.now) a.n
unfolding node_byte
begun c =
    ap (λ (x : ℕ). not (eqb (node_byte c.args.state.now c.args.n) 0) || not (eqb x 0)) c.requires.1.1
    ∙ node_begun c.args.plan.now c.args.state.now c.requires.1.0 c.args.n c.requires.0

pub returns-then-state-n : goal.returns-then-state-n
returns-then-state-n c =
    let e = ne_eqb (get_or c.args.state.now (8 + c.args.n) 0) 0 (λ z. omega (arith, z, c.if-state-n.true)) in
    rw (ne_eqb _ 0 c.if-state-n.true) (rw e at (begun (goal.at.returns-then-state-n c).Start))

pub returns-else-state-n : goal.returns-else-state-n
returns-else-state-n c =
    let e = eq-eqb (get_or c.args.state.now (8 + c.args.n) 0) 0 (omega (arith, c.if-state-n.false)) in
    rw e at (begun (goal.at.returns-else-state-n c).Start)
