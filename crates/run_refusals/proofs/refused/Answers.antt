-- `refused` meets its contract. Assumes nothing.
use mathlib.Core.Path.{◌≡◌, sym, ap, ◌∙◌}
use mathlib.Core.Bool.{true, false}
use Prim.Native.Nat.{◌<◌}
use Rattle.std.proofs.lemmas.Result.{err_from_is_err_and}
use Rattle.answers.proofs.Refusals.{some_number}
use Rattle.plan_format.specs.Format.{node_count, is_kind}
use Rattle.plan_check.specs.Meaning.{plan_of}
use Rattle.plan_check.proofs.Meaning.{kind_is}
use Rattle.runs.specs.Calls.{asks}
use Rattle.runs.specs.Numbers.{status_byte}
use Rattle.runs.specs.Plan.{Place, place_number}
use Rattle.runs.specs.Execution.{Status}
use Rattle.runs.specs.Model.Monitor.{inc_broken_b}
use Rattle.run_starts.specs.Starts.{node_byte}
use Rattle.run_state.specs.State.{status_in}
use Rattle.run_state.proofs.Passed.{has_room}
use Rattle.run_refusals.specs.Inner.{event_of}
use Rattle.node_sets.specs.Sets.{marked}
use Rattle.run_refusals.specs.Parts.{begin_refusal}
use Rattle.run_refusals.proofs.Moves.{asks_of, place_is, node_of_lem, task_event}
use Rattle.run_refusals.proofs.OfKind.{broken_by}
use Rattle.run_refusals.proofs.Answers.{answer_17, answer_18, answer_begin, answer_broken}
use native.Mathlib.Omega.{arith}
use Rattle.run_refusals.proofs.refused.Goals as goal
use Rattle.run_refusals.proofs.refused.Goals.{After-asked, After-inc_broken, Else-not-is_kind, In_ok-begin_refused}
use Rattle.run_refusals.proofs.refused.Goals.{Else-state-task}

is_task : (c : Else-not-is_kind) → is_kind c.args.plan.now c.args.task 0 ≡ true
is_task c = sym c.is_kind.ensures ∙ c.if-not-is_kind.false

task_below : (c : Else-not-is_kind) → c.args.task < node_count c.args.plan.now
task_below c = (kind_is _ _ 0 (is_task c)).0

asked_is : (c : After-asked) → let a = c.args in
    c.asked.result ≡ status_byte (asks (event_of a.m a.task))
asked_is c = let a = c.args in
    c.asked.ensures ∙ ap (λ (q : Status). status_byte q) (asks_of a.m a.task)

as_asked : (c : Else-state-task) → let a = c.args in
    node_byte a.state.now a.task ≡ status_byte (asks (event_of a.m a.task))
unfolding node_byte
as_asked c = let a = c.args in
    c.if-state-task.false ∙ c.asked.ensures ∙ ap (λ (q : Status). status_byte q) (asks_of a.m a.task)

begun : (c : In_ok-begin_refused) → let a = c.args in
    begin_refusal a.plan.now a.state.now (event_of a.m a.task) (marked a.standing.now a.task)
    ≡ 0
begun c = sym c.in_ok-begin_refused.ensures

broken : (c : After-inc_broken) → let a = c.args in
    inc_broken_b (plan_of a.plan.now) (status_in a.plan.now a.state.now) (event_of a.m a.task) ≡ c.inc_broken.result
broken c =
    let a = c.args in
    sym (broken_by a.plan.now a.state.now c.requires a.task (event_of a.m a.task) (node_of_lem a.m a.task)
    (task_event a.m a.task) _
    (c.asserted_place.ensures ∙ ap (λ (k : Place). place_number k) (place_is a.m a.task))
    _ c.mark_one-own.ensures _ c.inc_broken.ensures)

pub returns-then-not-is_kind : goal.returns-then-not-is_kind
returns-then-not-is_kind c xs u h = let a = c.args in
    answer_17 _ xs _ u a.task _ (node_of_lem a.m a.task) (task_event a.m a.task)
    (sym c.is_kind.ensures ∙ c.if-not-is_kind.true)

pub overflow_add-task : goal.overflow_add-task
overflow_add-task c = omega (
  arith,
  task_below (goal.at.overflow_add-task c).Else-not-is_kind,
  (has_room _ _ c.requires).plan.fits.limits.nodes,
)

pub bounds-state-task : goal.bounds-state-task
bounds-state-task c = omega
    (arith, task_below (goal.at.bounds-state-task c).Else-not-is_kind, (has_room _ _ c.requires).room)

pub returns-then-state-task : goal.returns-then-state-task
unfolding node_byte
returns-then-state-task c xs u h =
    let a = c.args in
    let p = goal.at.returns-then-state-task c in
    answer_18 _ xs _ u a.task _ (node_of_lem a.m a.task) (task_event a.m a.task)
    (is_task p.Else-not-is_kind) (λ z. c.if-state-task.true (z ∙ sym (asked_is p.After-asked)))

pub begin_refused-requires : goal.begin_refused-requires
begin_refused-requires c = record {
  node = task_below (goal.at.begin_refused-requires c).Else-not-is_kind;
  passed = c.requires;
}

pub returns-in_err-begin_refused : goal.returns-in_err-begin_refused
returns-in_err-begin_refused c xs u h =
    let a = c.args in
    let p = goal.at.returns-in_err-begin_refused c in
    let r = err_from_is_err_and c.from_residual.result c.from_residual.ensures.1 in
    rw (r.1, r.2) (answer_begin _ xs _ u a.task _ (node_of_lem a.m a.task) (task_event a.m a.task)
    (is_task p.Else-not-is_kind) (as_asked p.Else-state-task) h _
    c.in_err-begin_refused.ensures (some_number _))

pub mark_one-own-requires : goal.mark_one-own-requires
mark_one-own-requires c =
    let l = task_below (goal.at.mark_one-own-requires c).Else-not-is_kind in
    omega (arith, l, (has_room _ _ c.requires).plan.fits.limits.nodes)

-- 22, the last
pub returns-then-inc_broken : goal.returns-then-inc_broken
returns-then-inc_broken c xs u h =
    let a = c.args in
    let p = goal.at.returns-then-inc_broken c in
    answer_broken _ xs _ u a.task _ (node_of_lem a.m a.task) (task_event a.m a.task)
    (is_task p.Else-not-is_kind) (as_asked p.Else-state-task) h (begun p.In_ok-begin_refused) true
    (broken p.After-inc_broken ∙ c.if-inc_broken.true)

pub returns : goal.returns
returns c xs u h =
    let a = c.args in
    let p = goal.at.returns c in
    answer_broken _ xs _ u a.task _ (node_of_lem a.m a.task) (task_event a.m a.task)
    (is_task p.Else-not-is_kind) (as_asked p.Else-state-task) h (begun p.In_ok-begin_refused) false
    (broken p.After-inc_broken ∙ c.if-inc_broken.false)

pub is_kind-requires : goal.is_kind-requires
is_kind-requires c = (has_room _ _ c.requires).plan.fits

pub inc_broken-requires : goal.inc_broken-requires
inc_broken-requires c = c.requires
