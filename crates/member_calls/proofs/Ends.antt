-- The two ways in which a call ends, accepted and refused: what is then known, answered and written. Assumes nothing.
use mathlib.Core.Path.{◌≡◌, refl, fun_ext}
use mathlib.Core.Logic.{inl, inr, by_cases}
use mathlib.Core.Bool.{Bool, true, false, cond}
use mathlib.Core.List.{List}
use Prim.Native.Nat.{ℕ, ◌<◌}
use native.Mathlib.Decide.{ℕ_discrete}
use native.Mathlib.Omega.{arith}
use mir.Val.{bool_byte}
use lib.Dec.{eqb}
use lib.ListN.{length, set}
use lib.Seq.{get_or-set_same, get_or-set_other}
use borrow.Author.Tests.{lt-ltb, eq-eqb, ne_eqb}
use Rattle.base.specs.Count.{num}
use Rattle.base.proofs.First.{both_none, answer_none, answer_some}
use Rattle.plan_format.specs.Format.{node_count}
use Rattle.plan_check.specs.Meaning.{plan_of, start_of}
use Rattle.plan_check.proofs.Meaning.{means_well_formed}
use Rattle.plan_check.proofs.Nodes.{node_is}
use Rattle.runs.specs.Plan.{all_of}
use Rattle.runs.specs.WellFormed.{WellFormed}
use Rattle.runs.specs.Model.Verdicts.{verdict}
use Rattle.members.specs.Members.{MemberCall, changed, Refused31}
use Rattle.members.specs.Model.{members_of, member_refusal}
use Rattle.members.proofs.Answers.{of_a_child, all_of_root, called_child}
use Rattle.member_list.specs.Members.{member_in, MembersPass}
use Rattle.member_list.specs.Model.{members_refusal}
use Rattle.member_list.proofs.Bytes.{members_pass}
use Rattle.member_calls.specs.Model.{member_call_refusal, member_return, members_left}

-- the byte that a call writes
pub byte_is : (j : Bool) → bool_byte j ≡ num j
byte_is true = refl
byte_is false = refl

byte_shows : (j : Bool) → eqb (num j) 1 ≡ j
byte_shows true = refl
byte_shows false = refl

-- the list stays where something is refused
kept_list : (r : ℕ) (xs ys : List ℕ) → (r ≡ 0 → ⊥) → ys ≡ cond (eqb r 0) xs ys
kept_list r xs ys k = rw (ne_eqb r 0 k) refl

module _ (b ms : List ℕ) (c : MemberCall) where
  -- ---- a refused call
  module _ (k : member_call_refusal b ms c ≡ 0 → ⊥) where
    pub as_refused : inl (member_call_refusal b ms c) ≡ member_return b ms c
    unfolding member_return
    as_refused = answer_some _ _ k

    pub as_kept : ms ≡ members_left b ms c
    unfolding members_left
    as_kept = kept_list (member_call_refusal b ms c) (set ms c.node (num c.joins)) ms k

  -- ---- a call to which no refusal applies
  module _ (z : member_call_refusal b ms c ≡ 0) where
    none_applies : (members_refusal b ms ≡ 0) × (member_refusal (plan_of b) (member_in b ms) c ≡ 0)
    unfolding member_call_refusal
    none_applies = both_none _ _ z

    pub none_to_16 : MembersPass b ms
    none_to_16 = (members_pass b ms).0 none_applies.0

    w : WellFormed (plan_of b)
    w = means_well_formed b none_to_16.accepted

    of_child : ¬ Refused31 (plan_of b) c.node
    of_child = of_a_child (plan_of b) w (start_of b) (member_in b ms) c none_applies.1

    pub root_all_of : (plan_of b).tree.kind 0 ≡ all_of
    root_all_of = all_of_root (plan_of b) w (start_of b) of_child

    node : c.node < node_count b
    node = node_is b c.node (called_child (plan_of b) w (start_of b) of_child).node

    pub in_list : c.node < length ms
    in_list = omega (arith, node, none_to_16.room)

    -- the bytes then show the members after it
    pub shows_changed : member_in b (set ms c.node (num c.joins)) ≡ changed (member_in b ms) c
    unfolding member_in changed
    shows_changed = fun_ext (λ x. by_cases (ℕ_discrete x c.node)
        (λ (e : x ≡ c.node). rw (
          e,
          eq-eqb c.node c.node refl,
          lt-ltb c.node (node_count b) node,
          get_or-set_same ms c.node (num c.joins) 0 in_list,
        ) (byte_shows c.joins))
        (λ k. rw (ne_eqb x c.node k, get_or-set_other ms c.node x (num c.joins) 0 k) refl))

    pub as_judged : inr (verdict (members_of (plan_of b) (changed (member_in b ms) c)) (start_of b))
        ≡ member_return b ms c
    unfolding member_return
    as_judged = answer_none _ _ z

    pub as_written : set ms c.node (num c.joins) ≡ members_left b ms c
    unfolding members_left
    as_written = rw z refl
