-- The refusals of plan and list, one after another. Assumes nothing.
use mathlib.Core.Path.{◌≡◌, refl, sym, ◌∙◌}
use mathlib.Core.Bool.{true, false, true≢false}
use mathlib.Core.List.{List, [], ◌∷◌}
use Prim.Native.Nat.{ℕ, ◌<◌}
use native.Mathlib.Omega.{arith}
use lib.ListN.{length}
use Rattle.base.proofs.First.{first_none, first_some, both_none}
use Rattle.node_sets.specs.Sets.{AllMarked, Each}
use Rattle.plan_format.specs.Format.{node_count}
use Rattle.plan_rules.specs.Rules.{refusal}
use Rattle.base.proofs.Booleans.{not_passed}
use Rattle.plan_check.specs.Meaning.{plan_of}
use Rattle.plan_check.proofs.Accepted.{clean}
use Rattle.plan_check.proofs.Meaning.{means_well_formed}
use Rattle.plan_check.proofs.Nodes.{node_is}
use Rattle.runs.specs.Searches.{listed}
use Rattle.runs.specs.WellFormed.{WellFormed}
use Rattle.runs.specs.Calls.{Rising}
use Rattle.runs.specs.Blocked.{Refused28, names_root, no_node}
use Rattle.runs.specs.Branches.{Blocks}
use Rattle.runs.specs.Model.Blocked.{refused28_b, refused29_b, blocked_refusal}
use Rattle.runs.proofs.Reflect.{force, decided, r_T, r_lt, true_T, T_true}
use Rattle.runs.proofs.Calls.Listed.{r_listed}
use Rattle.runs.proofs.Blocked.Branches.{r_28, refusal_none, nothing_refused, blocked_well_formed, without_none}
use Rattle.plan_blocked.specs.Blocked.{plan_under, refusal_under}
use Rattle.plan_blocked.specs.Inner.{Standing, ListChecked}
use Rattle.plan_blocked.proofs.Standing.{all_stand}

module _ (b xs : List ℕ) where
  -- the plan is refused
  pub plan_refused : (table : List ℕ) (r : ℕ) → r ≡ refusal b → (r ≡ 0 → ⊥) → ListChecked b xs r table
  unfolding refusal_under
  plan_refused table r e n = record {
    returns = e ∙ first_some _ _ (λ z. n (e ∙ z));
    standing = λ z. absurd (n z);
  }

  module _ (ok : refusal b ≡ 0) where
    then : (r : ℕ) → r ≡ blocked_refusal (plan_of b) xs → r ≡ refusal_under b xs
    unfolding refusal_under
    then r e = e ∙ first_none (refusal b) _ ok

    pub none_blocked : (table : List ℕ) → AllMarked table → length xs ≡ 0 → ListChecked b xs 0 table
    none_blocked table all e = at xs e refl
      where
        at : (ys : List ℕ) → length ys ≡ 0 → ys ≡ xs → ListChecked b xs 0 table
        at [] e q = record {
          returns = then 0 (rw (sym q) (sym (nothing_refused (plan_of b) (means_well_formed b ok))));
          standing = λ z. rw (sym q) (all_stand b ok table all);
        }
        at (y ∷ ys) e q = absurd (omega arith)

    pub refused_28 : (table : List ℕ) → refused28_b (plan_of b) xs ≡ true → ListChecked b xs 28 table
    unfolding blocked_refusal
    refused_28 table e = record { returns = then 28 (rw e); standing = λ z. absurd (omega (arith, z)) }

    pub refused_29 : (table : List ℕ) → refused28_b (plan_of b) xs ≡ false → refused29_b (plan_of b) xs ≡ true
        → ListChecked b xs 29 table
    unfolding blocked_refusal
    refused_29 table e f = record { returns = then 29 (rw (e, f)); standing = λ z. absurd (omega (arith, z)) }

    pub none_refused : (table : List ℕ) → refused28_b (plan_of b) xs ≡ false → refused29_b (plan_of b) xs ≡ false
        → Standing b (listed xs) table → ListChecked b xs 0 table
    unfolding blocked_refusal
    none_refused table e f h = record { returns = then 0 (rw (e, f)); standing = λ z. h }

    -- where 28 does not apply: the root is not listed, and the numbers are those of nodes
    module _ (e : refused28_b (plan_of b) xs ≡ false) where
      no_28 : ¬ Refused28 (plan_of b) xs
      no_28 x = let z = T_true _ ((r_28 (plan_of b) (means_well_formed b ok) xs).from x) in true≢false (sym z ∙ e)

      pub root_free : listed xs 0 ≡ false
      root_free = not_passed _ (λ y. no_28 (names_root ((r_listed xs 0).to (true_T _ y))))

      pub all_nodes : Each xs (λ s. (0 < s) × (s < node_count b))
      all_nodes s i = (
        force (decided (r_lt 0 s)) (λ n. let z : s ≡ 0 = omega arith in no_28 (names_root (rw z at i))),
        node_is b s (force (decided (r_T ((plan_of b).tree.here s))) (λ n. no_28 (no_node s i n))),
      )

      pub small : Each xs (λ s. s < 128)
      small s i = omega (arith, (all_nodes s i).1, (clean b ok).fits.limits.nodes)

    -- a list that strictly rises, of nodes that may be blocked, is not refused
    pub list_passes : Rising xs → Blocks (plan_of b) (listed xs) → refusal_under b xs ≡ 0
    list_passes y k = sym (then 0 (sym ((refusal_none (plan_of b) (means_well_formed b ok) xs).1 (y, k))))

  -- what a list that is not refused leaves
  module _ (ok : refusal_under b xs ≡ 0) where
    pub plan_accepted : refusal b ≡ 0
    unfolding refusal_under
    plan_accepted = (both_none (refusal b) _ ok).0

    passed : Rising xs × Blocks (plan_of b) (listed xs)
    unfolding refusal_under
    passed = (refusal_none (plan_of b) (means_well_formed b plan_accepted) xs).0 (both_none (refusal b) _ ok).1

    pub strictly_rises : Rising xs
    strictly_rises = passed.0

    pub blocks : Blocks (plan_of b) (listed xs)
    blocks = passed.1

    pub under_well_formed : WellFormed (plan_under b xs)
    under_well_formed = blocked_well_formed (plan_of b) (means_well_formed b plan_accepted) (listed xs) blocks

-- with nothing blocked: the refusals of the plan, and the plan itself
module _ (b : List ℕ) where
  pub none_under : refusal b ≡ 0 → plan_under b [] ≡ plan_of b
  none_under ok = without_none (plan_of b) (means_well_formed b ok)
