-- `together_refused` meets its contract. Assumes nothing.
use mathlib.Core.Path.{◌≡◌, sym, ap, ◌∙◌}
use mathlib.Core.Bool.{Bool, false, cond, not}
use Prim.Native.Nat.{◌+◌, ◌<◌}
use lib.ListN.{length}
use lib.Dec.{eqb}
use Rattle.plan_format.specs.Format.{is_kind}
use Rattle.plan_check.specs.Meaning.{plan_of}
use Rattle.plan_check.proofs.Meaning.{kind_is}
use Rattle.runs.specs.Searches.{any_in}
use Rattle.runs.specs.Model.Monitor.{not_rising_b, post_opposed_b}
use Rattle.run_starts.specs.Starts.{node_byte}
use Rattle.run_state.proofs.Passed.{has_room}
use Rattle.node_sets.specs.Sets.{Each}
use Rattle.run_refusals.proofs.Together.{together_25, together_17, together_18, together_26, opposed, unopposed}
use Rattle.run_refusals.proofs.Together.{tasks}
use native.Mathlib.Omega.{arith}
use Rattle.run_refusals.proofs.together_refused.Goals as goal
use Rattle.run_refusals.proofs.together_refused.Goals.{After-unmet, Else-no_task, Else-not_rising, Else-not_running}

-- ---- what is known after each test
rising : (c : Else-not_rising) → not_rising_b c.args.tasks.now ≡ false
rising c = sym c.not_rising.ensures ∙ c.if-not_rising.false

fit : (c : Else-no_task) → let a = c.args in
    any_in a.tasks.now (λ t. not (is_kind a.plan.now t 0)) ≡ false
fit c = sym c.no_task.ensures ∙ c.if-no_task.false

run : (c : Else-not_running) → let a = c.args in
    any_in a.tasks.now (λ t. not (eqb (node_byte a.state.now t) 1)) ≡ false
run c = sym c.not_running.ensures ∙ c.if-not_running.false

inside : (c : Else-no_task) → let a = c.args in
    Each a.tasks.now (λ t. (t < 128) × (8 + t < length a.state.now))
inside c t i =
    let l = (kind_is _ t 0 (tasks _ _ c.requires _ (fit c) t i)).0 in
    let r = has_room _ _ c.requires in
    (omega (arith, l, r.plan.fits.limits.nodes), omega (arith, l, r.room))

opposed_here : (c : After-unmet) → not_rising_b c.args.tasks.now ≡ false
    → c.unmet.result ≡ post_opposed_b (plan_of c.args.plan.now) c.args.tasks.now
opposed_here c y =
    together_26 _ _ c.requires _ y _ c.mark_all-marks.ensures _
    (rw c.load.ensures at c.with_literals-next.ensures) _ c.unmet.ensures

-- ---- the answers
pub returns-then-not_rising : goal.returns-then-not_rising
returns-then-not_rising c xs u = together_25 _ xs _ u _
    (sym c.not_rising.ensures ∙ c.if-not_rising.true)

pub returns-then-no_task : goal.returns-then-no_task
returns-then-no_task c xs u =
    together_17 _ xs _ u _ (rising (goal.at.returns-then-no_task c).Else-not_rising)
    (sym c.no_task.ensures ∙ c.if-no_task.true)

pub returns-then-not_running : goal.returns-then-not_running
returns-then-not_running c xs u = let p = goal.at.returns-then-not_running c in
    together_18 _ xs _ u _ (rising p.Else-not_rising) (fit p.Else-no_task)
    (sym c.not_running.ensures ∙ c.if-not_running.true)

pub returns-then-unmet : goal.returns-then-unmet
returns-then-unmet c xs u =
    let p = goal.at.returns-then-unmet c in
    let y = rising p.Else-not_rising in
    opposed _ xs _ u _ y (fit p.Else-no_task) (run p.Else-not_running)
    (sym (opposed_here p.After-unmet y) ∙ c.if-unmet.true)

pub returns-then-inc_broken : goal.returns-then-inc_broken
returns-then-inc_broken c xs u =
    let p = goal.at.returns-then-inc_broken c in
    let y = rising p.Else-not_rising in
    ap (λ (x : Bool). cond x 22 0) (sym c.if-inc_broken.true)
    ∙ unopposed _ xs _ u _ y (fit p.Else-no_task) (run p.Else-not_running)
    (sym (opposed_here p.After-unmet y) ∙ c.if-unmet.false) _ c.mark_all-marks.ensures _ c.inc_broken.ensures

pub returns : goal.returns
returns c xs u =
    let p = goal.at.returns c in
    let y = rising p.Else-not_rising in
    ap (λ (x : Bool). cond x 22 0) (sym c.if-inc_broken.false)
    ∙ unopposed _ xs _ u _ y (fit p.Else-no_task) (run p.Else-not_running)
    (sym (opposed_here p.After-unmet y) ∙ c.if-unmet.false) _ c.mark_all-marks.ensures _ c.inc_broken.ensures

pub no_task-requires : goal.no_task-requires
no_task-requires c = (has_room _ _ c.requires).plan.fits

pub not_running-requires : goal.not_running-requires
not_running-requires c = inside (goal.at.not_running-requires c).Else-no_task

pub mark_all-marks-requires : goal.mark_all-marks-requires
mark_all-marks-requires c = λ t i. (inside (goal.at.mark_all-marks-requires c).Else-no_task t i).0

pub load-requires : goal.load-requires
load-requires c = omega (arith, (has_room _ _ c.requires).room)

pub with_literals-next-requires : goal.with_literals-next-requires
with_literals-next-requires c = (has_room _ _ c.requires).accepted

pub unmet-requires : goal.unmet-requires
unmet-requires c = (has_room _ _ c.requires).accepted

pub inc_broken-requires : goal.inc_broken-requires
inc_broken-requires c = c.requires
