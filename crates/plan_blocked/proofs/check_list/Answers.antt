-- `plan_blocked::check_list` meets its contract. Assumes nothing.
use mathlib.Core.Path.{◌≡◌, sym, ap, ◌∙◌}
use mathlib.Core.Bool.{Bool, false}
use Prim.Native.Nat.{ℕ}
use borrow.Author.Tests.{eqb-true}
use Rattle.plan_check.specs.Meaning.{plan_of}
use Rattle.runs.specs.Searches.{listed}
use Rattle.runs.specs.Model.Blocked.{refused28_b, refused29_b}
use Rattle.plan_blocked.specs.Inner.{Standing}
use Rattle.plan_blocked.proofs.Branches.{emptied_29}
use Rattle.plan_blocked.proofs.Refused.{none_blocked, refused_28, refused_29, none_refused, root_free}
use Rattle.plan_blocked.proofs.Refused.{all_nodes, small}
use Rattle.plan_blocked.proofs.check_list.Goals as goal
use Rattle.plan_blocked.proofs.check_list.Goals.{After-branchless, After-mark_standing-marks, Else-list_bad}

passed : (c : Else-list_bad) → let a = c.args in refused28_b (plan_of a.plan.now) a.list.now ≡ false
passed c = sym c.list_bad.ensures ∙ c.if-list_bad.false

pub mark_standing-marks-requires : goal.mark_standing-marks-requires
mark_standing-marks-requires c =
    let p = passed (goal.at.mark_standing-marks-requires c).Else-list_bad in
    let free = ap (λ (S : ℕ → Bool). S 0) c.mark_all-blocked.ensures in
    (c.requires.0, (free ∙ root_free _ _ c.requires.0 p, c.requires.1))

-- the tables after it
standing : (c : After-mark_standing-marks) → let a = c.args in
    Standing a.plan.now (listed a.list.now) c.mark_standing-marks.new.standing
standing c = rw c.mark_all-blocked.ensures at c.mark_standing-marks.ensures.0

pub branchless-requires : goal.branchless-requires
branchless-requires c =
    let ok = c.requires.0 in
    (ok, all_nodes _ _ ok (passed (goal.at.branchless-requires c).Else-list_bad))

-- whether 29 applies
bare : (c : After-branchless) → let a = c.args in refused28_b (plan_of a.plan.now) a.list.now ≡ false
    → c.branchless.result ≡ refused29_b (plan_of a.plan.now) a.list.now
bare c p =
    let ok = c.requires.0 in
    c.branchless.ensures
    ∙ emptied_29 _ _ _ _ ok (all_nodes _ _ ok p) (rw c.mark_all-blocked.ensures at c.mark_standing-marks.ensures.0)
    (rw c.mark_all-blocked.ensures at c.mark_standing-marks.ensures.1)

pub returns-then-is_empty : goal.returns-then-is_empty
returns-then-is_empty c = none_blocked _ _ c.requires.0 _ c.requires.1
    (eqb-true _ _ (sym c.is_empty.ensures ∙ c.if-is_empty.true))

pub list_bad-requires : goal.list_bad-requires
list_bad-requires c = c.requires.0

pub returns-then-list_bad : goal.returns-then-list_bad
returns-then-list_bad c = refused_28 _ _ c.requires.0 _
    (sym c.list_bad.ensures ∙ c.if-list_bad.true)

pub mark_all-blocked-requires : goal.mark_all-blocked-requires
mark_all-blocked-requires c = small _ _ c.requires.0 (passed (goal.at.mark_all-blocked-requires c).Else-list_bad)

pub returns-then-branchless : goal.returns-then-branchless
returns-then-branchless c =
    let a = goal.at.returns-then-branchless c in
    let p = passed a.Else-list_bad in
    refused_29 _ _ c.requires.0 _ p (sym (bare a.After-branchless p) ∙ c.if-branchless.true)

pub returns : goal.returns
returns c =
    let a = goal.at.returns c in
    let p = passed a.Else-list_bad in
    none_refused _ _ c.requires.0 _ p (sym (bare a.After-branchless p) ∙ c.if-branchless.false)
    (standing a.After-mark_standing-marks)
