-- `run_enabled::branch_begun` meets its contract. Assumes nothing.
use mathlib.Core.Path.{◌≡◌, sym, ◌∙◌}
use Rattle.runs.specs.Plan.{itself}
use Rattle.run_state.proofs.Passed.{has_room}
use Rattle.run_enabled.proofs.Branches.{rival_here, rival_up, none_at_root, begun_yes, begun_no}
use Rattle.run_enabled.proofs.Marks.{parent_lower, parent_above}
use native.Mathlib.Omega.{arith}
use Rattle.run_enabled.proofs.branch_begun.Goals as goal

pub loop-n-init : goal.loop-n-init
loop-n-init c = (itself, (c.requires.at_event.node, λ x. x))

pub parent-requires : goal.parent-requires
parent-requires c = (c.loop-n.invariant.1.0, (has_room _ _ c.requires.at_event.passed).plan.fits)

pub rival_begun-requires : goal.rival_begun-requires
rival_begun-requires c = record {
  n_nonzero = (
    omega arith,
    (c.loop-n.invariant.1.0, (c.from-g.ensures ∙ c.parent.ensures, c.requires.at_event.passed)),
  );
  counted = c.requires.counted;
}

pub returns-then-rival_begun : goal.returns-then-rival_begun
returns-then-rival_begun c =
    let ok = c.requires.at_event.passed in
    begun_yes _ _ ok c.args.node
    (rival_here _ _ ok c.loop-n.n c.from-g.result (omega arith) c.loop-n.invariant.1.0
    (c.from-g.ensures ∙ c.parent.ensures) c.loop-n.invariant.0 (sym c.rival_begun.ensures ∙ c.if-rival_begun.true))

pub loop-n-smaller : goal.loop-n-smaller
loop-n-smaller c =
    parent_lower _ (has_room _ _ c.requires.at_event.passed).accepted c.loop-n.n c.from-g.result (omega arith)
    c.loop-n.invariant.1.0 (c.from-g.ensures ∙ c.parent.ensures)

pub loop-n-preserved : goal.loop-n-preserved
loop-n-preserved c =
    let ok = c.requires.at_event.passed in
    let fine = (has_room _ _ ok).accepted in
    let up = c.from-g.ensures ∙ c.parent.ensures in
    let l = c.loop-n.invariant in
    let lower = parent_lower _ fine c.loop-n.n c.from-g.result (omega arith) l.1.0 up in (
      parent_above _ fine c.loop-n.n c.from-g.result (omega arith) l.1.0 up l.0,
      (
        omega (arith, lower, l.1.0),
        λ x.
            rival_up _ _ ok c.loop-n.n c.from-g.result (omega arith) l.1.0 up
            (sym c.rival_begun.ensures ∙ c.if-rival_begun.false) (l.1.1 x),
      ),
    )

pub returns : goal.returns
returns c =
    let ok = c.requires.at_event.passed in
    let e : c.loop-n.n ≡ 0 = omega arith in
    begun_no _ _ ok c.args.node (λ x. none_at_root _ _ ok (rw e at (c.loop-n.invariant.1.1 x)))
