-- The table of relation codes of the orders between nodes that stand. Definitions only.
use Rattle.std.specs.Prelude.{◌↔◌, List, ℕ, ◌<◌, T}
use Rattle.runs.specs.Plan.{Plan, Node}
use Rattle.tables.specs.Represents.{RepresentsOrder}
use Rattle.node_sets.specs.Sets.{marked}
use Rattle.plan_format.specs.Format.{node_count}
use Rattle.plan_check.specs.Meaning.{plan_of}

-- for every plan of nodes of the bytes, whose orders are those of the bytes of which both nodes are marked as standing:
-- its chains, so that none goes through a node that does not stand
pub record OrdersAmong (b standing order : List ℕ) : Type 0 where
  pub represents : (p : Plan) → ((n : ℕ) → Node p n → n < node_count b)
      → ((x y : ℕ) → T (p.order x y) ↔ (T ((plan_of b).order x y) × (T (marked standing x) × T (marked standing y))))
      → RepresentsOrder order p
