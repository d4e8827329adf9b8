-- `check_call` meets its contract: each check is the first that applies. Assumes nothing.
use mathlib.Core.Path.{◌≡◌, sym, ap, ◌∙◌}
use mathlib.Core.Bool.{not, ◌&&◌}
use Prim.Native.Nat.{◌<◌}
use native.Mathlib.Omega.{arith}
use Rattle.std.proofs.lemmas.Result.{err_from_is_err_and}
use Rattle.answers.proofs.Refusals.{some_number}
use Rattle.plan_format.specs.Format.{node_count, is_kind}
use Rattle.plan_check.proofs.Accepted.{clean}
use Rattle.plan_check.specs.Meaning.{plan_of}
use Rattle.runs.specs.Model.Trees.{child_b}
use Rattle.member_list.specs.Members.{MembersPass}
use Rattle.member_list.specs.Model.{members_refusal}
use Rattle.member_list.proofs.Bytes.{members_pass}
use Rattle.member_calls.proofs.Checks.{list_refused, no_node, no_child, already, passed}
use Rattle.member_calls.proofs.check_call.Goals as goal
use Rattle.member_calls.proofs.check_call.Goals.{In_ok-check_members, Else-node-nodes, Joined-is_kind}
use Rattle.member_calls.proofs.check_call.Goals.{then-is_kind, else-is_kind}

none_yet : (c : In_ok-check_members) → members_refusal c.args.plan.now c.args.members.now ≡ 0
none_yet c = sym c.in_ok-check_members.ensures

passes : (c : In_ok-check_members) → MembersPass c.args.plan.now c.args.members.now
passes c = (members_pass _ _).0 (none_yet c)

is_node : (c : Else-node-nodes) → c.args.node < node_count c.args.plan.now
is_node c = omega (arith, c.nodes.ensures, c.if-node-nodes.false)

-- whether it is a child of an all_of root
its_child : (c : Joined-is_kind) → let a = c.args in
    c.if-is_kind.value ≡ (is_kind a.plan.now 0 1 && child_b (plan_of a.plan.now) 0 a.node)
its_child c = elim c.if-is_kind.branch [
  | then-is_kind w ↦ rw (sym c.is_kind.ensures ∙ w.if-is_kind.true) (w.value-is ∙ w.root_child.ensures)
  | else-is_kind w ↦ rw (sym c.is_kind.ensures ∙ w.if-is_kind.false) (w.value-is ∙ w.if-is_kind.false)
]

pub returns-in_err-check_members : goal.returns-in_err-check_members
returns-in_err-check_members c =
    let p = err_from_is_err_and c.from_residual.result c.from_residual.ensures.1 in
    rw (p.1, p.2) (list_refused _ _ _ c.in_err-check_members.ensures (some_number _))

pub nodes-requires : goal.nodes-requires
nodes-requires c = (clean _ (passes (goal.at.nodes-requires c).In_ok-check_members).accepted).fits.limits.long

pub returns-then-node-nodes : goal.returns-then-node-nodes
returns-then-node-nodes c =
    let at = goal.at.returns-then-node-nodes c in
    no_node _ _ _ (none_yet at.In_ok-check_members) (omega (arith, c.nodes.ensures, c.if-node-nodes.true))

pub is_kind-requires : goal.is_kind-requires
is_kind-requires c = (clean _ (passes (goal.at.is_kind-requires c).In_ok-check_members).accepted).fits

pub root_child-requires : goal.root_child-requires
root_child-requires c =
    let at = goal.at.root_child-requires c in ((passes at.In_ok-check_members).accepted, is_node at.Else-node-nodes)

pub bounds-members-node : goal.bounds-members-node
bounds-members-node c =
    let at = goal.at.bounds-members-node c in
    omega (arith, is_node at.Else-node-nodes, (passes at.In_ok-check_members).room)

pub returns-then-not-root_child : goal.returns-then-not-root_child
returns-then-not-root_child c =
    let at = goal.at.returns-then-not-root_child c in
    no_child _ _ _ (none_yet at.In_ok-check_members) (is_node at.Else-node-nodes)
    (ap not (sym (its_child at.Joined-is_kind) ∙ c.if-not-root_child.true))

pub returns-then-members-node : goal.returns-then-members-node
returns-then-members-node c =
    let at = goal.at.returns-then-members-node c in
    already _ _ _ (none_yet at.In_ok-check_members) (is_node at.Else-node-nodes)
    (ap not (sym (its_child at.Joined-is_kind) ∙ c.if-not-root_child.false)) c.if-members-node.true

pub returns : goal.returns
returns c =
    let at = goal.at.returns c in
    passed _ _ _ (none_yet at.In_ok-check_members) (is_node at.Else-node-nodes)
    (ap not (sym (its_child at.Joined-is_kind) ∙ c.if-not-root_child.false)) c.if-members-node.false
