-- Where every node is marked, what is left is the whole plan. Assumes nothing.
use mathlib.Core.Path.{◌≡◌, ap, subst, fun_ext}
use mathlib.Core.Logic.{by_cases}
use mathlib.Core.Bool.{Bool}
use mathlib.Core.List.{List}
use Prim.Native.Nat.{ℕ, ◌<◌}
use native.Mathlib.Decide.{dec_lt}
use native.Mathlib.Omega.{arith}
use borrow.Author.Tests.{lt-ltb, le-ltb}
use Rattle.node_sets.specs.Sets.{marked, AllMarked}
use Rattle.plan_format.specs.Format.{node_count}
use Rattle.plan_rules.specs.Rules.{refusal}
use Rattle.plan_check.specs.Meaning.{plan_of}
use Rattle.plan_check.proofs.Accepted.{clean}
use Rattle.runs.specs.Tests.{both}
use Rattle.runs.specs.Plan.{Plan}
use Rattle.runs.specs.Model.Blocked.{within, over}
use Rattle.table_children.specs.Children.{TreeIn, plan_with, TreeOf}

all_left : (b table : List ℕ) → refusal b ≡ 0 → AllMarked table → plan_with b table ≡ plan_of b
unfolding plan_of both marked
all_left b table ok all = ap (λ (here : ℕ → Bool). over (plan_of b) (within (plan_of b).tree here) (plan_of b).order)
    (fun_ext (λ c. by_cases (dec_lt c (node_count b))
    (λ (l : c < node_count b). rw
    (lt-ltb c (node_count b) l, all.is c (omega (arith, l, (clean b ok).fits.limits.nodes))))
    (λ n. rw (le-ltb c (node_count b) (omega arith)))))

pub whole_tree : (b table : List ℕ) {from kids : List ℕ} → refusal b ≡ 0 → AllMarked table
    → TreeIn (plan_with b table) (node_count b) from kids → TreeOf b from kids
whole_tree b table {from} {kids} ok all t = record {
  whole = subst (λ (p : Plan). TreeIn p (node_count b) from kids) (all_left b table ok all) t;
}
