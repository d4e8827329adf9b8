-- Tables filled in either way: with all orders of the plan, or with those between nodes that stand. Assumes nothing.
use mathlib.Core.Path.{◌≡◌}
use mathlib.Core.Bool.{Bool, true, false, true≢false, false≢true}
use mathlib.Core.List.{List}
use Prim.Native.Nat.{ℕ}
use Rattle.plan_format.specs.Format.{node_count}
use Rattle.plan_check.specs.Meaning.{plan_of}
use Rattle.plan_blocked.specs.Inner.{Standing}
use Rattle.runs.specs.Branches.{Blocks}
use Rattle.runs.specs.Model.Blocked.{without}
use Rattle.tables.specs.Represents.{Represents}
use Rattle.table_children.specs.Children.{TreeIn, plan_with}
use Rattle.table_all.specs.Filled.{TablesOf, AmongOf}

pub record FilledBy (b standing : List ℕ) (among : Bool) (kind from kids order conds : List ℕ) : Type 0 where
  pub children : TreeIn (plan_with b standing) (node_count b) from kids
  pub all_orders : among ≡ false → (S : ℕ → Bool) → Blocks (plan_of b) S → Standing b S standing
      → Represents kind from kids order conds (node_count b) (without (plan_of b) S)
  pub among_orders : among ≡ true → (S : ℕ → Bool) → Standing b S standing
      → Represents kind from kids order conds (node_count b) (without (plan_of b) S)

-- the tables are those that one of the two left
module _ {b standing : List ℕ} {among : Bool} {k f d o q kind from kids order conds : List ℕ} (ek : kind ≡ k)
    (ef : from ≡ f) (ed : kids ≡ d) (eo : order ≡ o) (eq : conds ≡ q) where
  pub by_tables : among ≡ false → TablesOf b standing k f d o q → FilledBy b standing among kind from kids order conds
  by_tables e t = rw (e, ek, ef, ed, eo, eq) (record {
    children = t.children;
    all_orders = λ z. t.represents;
    among_orders = λ z. absurd (false≢true z);
  })

  pub by_among : among ≡ true → AmongOf b standing k f d o q → FilledBy b standing among kind from kids order conds
  by_among e t = rw (e, ek, ef, ed, eo, eq) (record {
    children = t.children;
    all_orders = λ z. absurd (true≢false z);
    among_orders = λ z. t.represents;
  })
