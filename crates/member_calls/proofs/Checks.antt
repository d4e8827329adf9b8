-- Which refusal of a call is the first, by the tests of the bytes. Assumes nothing.
use mathlib.Core.Path.{◌≡◌, refl, sym, ◌∙◌}
use mathlib.Core.Logic.{by_cases}
use mathlib.Core.Bool.{Bool, true, false, cond, not, ◌&&◌, decide, beq}
use mathlib.Core.List.{List}
use Prim.Native.Nat.{ℕ, ◌<◌, ◌≤◌}
use native.Mathlib.Decide.{ℕ_discrete}
use native.Mathlib.Omega.{arith}
use lib.Dec.{eqb}
use lib.ListN.{get_or}
use borrow.Author.Tests.{lt-ltb, le-ltb, ne_eqb}
use Rattle.base.proofs.First.{first_some}
use Rattle.plan_format.specs.Format.{node_count, kind_of, is_kind}
use Rattle.plan_check.specs.Meaning.{plan_of, kind_at}
use Rattle.runs.specs.Plan.{task, all_of, any_of, optional}
use Rattle.runs.specs.Searches.{either}
use Rattle.runs.specs.Tests.{negate, same_b}
use Rattle.runs.specs.Model.Trees.{kind_b, child_b}
use Rattle.members.specs.Members.{MemberCall}
use Rattle.members.specs.Model.{refused31_b, member_refusal}
use Rattle.member_list.specs.Members.{member_in}
use Rattle.member_list.specs.Model.{members_refusal}
use Rattle.member_calls.specs.Model.{member_call_refusal}

-- 31, by the tests of the bytes
root_kind : (b : List ℕ) → 0 < node_count b → is_kind b 0 1 ≡ kind_b ((plan_of b).tree.kind 0) all_of
unfolding is_kind kind_b plan_of kind_at decide
root_kind b l = rw (lt-ltb 0 (node_count b) l) (by_cases (ℕ_discrete (kind_of b 0) 1)
    (λ (e : kind_of b 0 ≡ 1). rw e refl)
    (λ k. rw (ne_eqb (kind_of b 0) 1 k) (other (eqb (kind_of b 0) 0) (eqb (kind_of b 0) 2))))
  where
    other : (x y : Bool) → false ≡ kind_b (cond x task (cond y any_of optional)) all_of
    other true y = refl
    other false true = refl
    other false false = refl

not_both : (a t : Bool) → not (a && t) ≡ either (negate a) (λ u. negate t)
unfolding either negate
not_both true t = refl
not_both false t = refl

-- two tests are the same
same_tests : (u v : Bool) → same_b u v ≡ beq u v
unfolding same_b
same_tests true true = refl
same_tests true false = refl
same_tests false true = refl
same_tests false false = refl

module _ (b ms : List ℕ) (c : MemberCall) where
  pub list_refused : {r : ℕ} → r ≡ members_refusal b ms → (r ≡ 0 → ⊥) → r ≡ member_call_refusal b ms c
  unfolding member_call_refusal
  list_refused e k = e ∙ first_some _ _ (λ z. k (e ∙ z))

  module _ (h : members_refusal b ms ≡ 0) where
    pub no_node : node_count b ≤ c.node → 17 ≡ member_call_refusal b ms c
    unfolding member_call_refusal member_refusal negate plan_of
    no_node l = rw (h, le-ltb c.node (node_count b) l) refl

    module _ (l : c.node < node_count b) where
      abbrev after_17 : Bool → Bool → ℕ
      after_17 a d = cond a 31 (cond d 32 0)

      after : {a d : Bool} → refused31_b (plan_of b) c.node ≡ a → same_b (member_in b ms c.node) c.joins ≡ d
          → after_17 a d ≡ member_call_refusal b ms c
      unfolding member_call_refusal member_refusal negate plan_of
      after p q = rw (h, lt-ltb c.node (node_count b) l, p, q) refl

      abbrev its_child : Bool
      its_child = is_kind b 0 1 && child_b (plan_of b) 0 c.node

      by_31 : {a : Bool} → not its_child ≡ a → refused31_b (plan_of b) c.node ≡ a
      unfolding refused31_b
      by_31 e = rw (← root_kind b (omega (arith, l)))
          (sym (not_both (is_kind b 0 1) (child_b (plan_of b) 0 c.node)) ∙ e)

      pub no_child : not its_child ≡ true → 31 ≡ member_call_refusal b ms c
      no_child e = after (by_31 e) refl

      -- 32, by the byte
      abbrev as_before : Bool
      as_before = beq (eqb (get_or ms c.node 0) 1) c.joins

      by_32 : {d : Bool} → as_before ≡ d → same_b (member_in b ms c.node) c.joins ≡ d
      unfolding member_in
      by_32 e = rw (lt-ltb c.node (node_count b) l) (same_tests (eqb (get_or ms c.node 0) 1) c.joins ∙ e)

      module _ (k : not its_child ≡ false) where
        pub already : as_before ≡ true → 32 ≡ member_call_refusal b ms c
        already e = after (by_31 k) (by_32 e)

        pub passed : as_before ≡ false → 0 ≡ member_call_refusal b ms c
        passed e = after (by_31 k) (by_32 e)
