-- `run_progress::is_complete` meets its contract. Assumes nothing.
use mathlib.Core.Path.{◌≡◌, sym, ap, ◌∙◌}
use mathlib.Core.Bool.{not, ◌||◌}
use Prim.Native.Nat.{ℕ, ◌+◌, ◌<◌}
use native.Mathlib.Omega.{arith}
use lib.Dec.{eqb}
use lib.ListN.{get_or}
use borrow.Author.Tests.{eq-eqb, ne_eqb}
use Rattle.plan_check.specs.Meaning.{plan_of}
use Rattle.plan_check.proofs.Meaning.{kind_is}
use Rattle.plan_check.proofs.Nodes.{other_kind}
use Rattle.runs.specs.Model.Monitor.{complete_b}
use Rattle.run_starts.specs.Starts.{node_byte}
use Rattle.run_state.specs.State.{status_in}
use Rattle.run_state.proofs.Passed.{has_room, node_small, byte_inside}
use Rattle.run_progress.proofs.Progress.{all_complete, other_complete}
use Rattle.run_progress.proofs.is_complete.Goals as goal
use Rattle.run_progress.proofs.is_complete.Goals.{Start, Else-is_kind}

small : (c : Start) → c.args.n < 128
small c = node_small _ _ c.requires.1.0 _ c.requires.0

pub is_kind-requires : goal.is_kind-requires
is_kind-requires c = (has_room _ _ c.requires.1.0).plan.fits

pub bounds-ends-n : goal.bounds-ends-n
bounds-ends-n c = small (goal.at.bounds-ends-n c).Start

pub bounds-ends-n-else-is_kind : goal.bounds-ends-n-else-is_kind
bounds-ends-n-else-is_kind c = small (goal.at.bounds-ends-n-else-is_kind c).Start

pub overflow_add-result : goal.overflow_add-result
overflow_add-result c = omega (arith, small (goal.at.overflow_add-result c).Start)

pub bounds-state-n : goal.bounds-state-n
bounds-state-n c = byte_inside _ _ c.requires.1.0 _ c.requires.0

pub returns-then-is_kind : goal.returns-then-is_kind
returns-then-is_kind c =
    ap (λ (x : ℕ). eqb x 0) c.requires.1.1
    ∙ all_complete c.args.plan.now c.args.state.now c.requires.1.0 c.args.n c.requires.0
    (kind_is _ _ 1 (sym c.is_kind.ensures ∙ c.if-is_kind.true)).1

-- a group that is not all-of, or a task
other : (c : Else-is_kind) → let a = c.args in
    not (eqb (get_or a.ends.now a.n 0) 0) || eqb (get_or a.state.now (8 + a.n) 0) 2
    ≡ complete_b (plan_of a.plan.now) (status_in a.plan.now a.state.now) a.n
unfolding node_byte
other c =
    let b = c.args.plan.now in
    let n = c.args.n in
    ap (λ (x : ℕ). not (eqb x 0) || eqb (node_byte c.args.state.now n) 2) c.requires.1.1
    ∙ other_complete b c.args.state.now c.requires.1.0 n c.requires.0
    (other_kind b n 1 c.requires.0 (sym c.is_kind.ensures ∙ c.if-is_kind.false))

pub returns-then-ends-n-ne0 : goal.returns-then-ends-n-ne0
returns-then-ends-n-ne0 c =
    let e = ne_eqb _ 0 c.if-ends-n-ne0.true in
    rw e (rw e at (other (goal.at.returns-then-ends-n-ne0 c).Else-is_kind))

pub returns-else-ends-n-ne0 : goal.returns-else-ends-n-ne0
returns-else-ends-n-ne0 c =
    rw (eq-eqb _ 0 c.if-ends-n-ne0.false) at (other (goal.at.returns-else-ends-n-ne0 c).Else-is_kind)
