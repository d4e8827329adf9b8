-- `skip_refused` meets its contract. Assumes nothing.
use mathlib.Core.Path.{◌≡◌, sym, ◌∙◌}
use mathlib.Core.Bool.{true}
use Rattle.plan_format.specs.Format.{is_kind}
use Rattle.plan_check.proofs.Meaning.{kind_is}
use Rattle.run_state.proofs.Passed.{has_room, node_small}
use Rattle.run_refusals.proofs.Answers.{skip_27, skip_18, skip_tree}
use Rattle.run_refusals.proofs.skip_refused.Goals as goal
use Rattle.run_refusals.proofs.skip_refused.Goals.{Else-not-is_kind}

is_optional : (c : Else-not-is_kind) → is_kind c.args.plan.now c.args.group 3 ≡ true
is_optional c = sym c.is_kind.ensures ∙ c.if-not-is_kind.false

pub returns-then-not-is_kind : goal.returns-then-not-is_kind
returns-then-not-is_kind c xs u h = skip_27 _ xs _ u _
    (sym c.is_kind.ensures ∙ c.if-not-is_kind.true)

pub is_begun-requires : goal.is_begun-requires
is_begun-requires c =
    let l = (kind_is _ _ 3 (is_optional (goal.at.is_begun-requires c).Else-not-is_kind)).0 in
    (l, (c.requires, c.children-begun.ensures.1 _ (node_small _ _ c.requires _ l)))

pub returns-then-is_begun : goal.returns-then-is_begun
returns-then-is_begun c xs u h = skip_18 _ xs _ u _
    (is_optional (goal.at.returns-then-is_begun c).Else-not-is_kind)
    (sym c.is_begun.ensures ∙ c.if-is_begun.true)

pub tree_refused-requires : goal.tree_refused-requires
tree_refused-requires c = record {
  at_event = record {
    node = (kind_is _ _ 3 (is_optional (goal.at.tree_refused-requires c).Else-not-is_kind)).0;
    passed = c.requires;
  };
  counted = c.children-begun.ensures.1;
}

pub returns-else-is_begun : goal.returns-else-is_begun
returns-else-is_begun c xs u h = skip_tree _ xs _ u _
    (is_optional (goal.at.returns-else-is_begun c).Else-not-is_kind)
    (sym c.is_begun.ensures ∙ c.if-is_begun.false) h _ c.tree_refused.ensures

pub is_kind-requires : goal.is_kind-requires
is_kind-requires c = (has_room _ _ c.requires).plan.fits
