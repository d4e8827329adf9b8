-- The chain of causes, from its beginning to cause 4. Assumes nothing.
use mathlib.Core.Path.{◌≡◌}
use mathlib.Core.Bool.{true, false}
use mathlib.Core.List.{List}
use Prim.Native.Nat.{ℕ, ◌<◌, ◌≤◌}
use lib.ListN.{length}
use borrow.Author.Tests.{eq-eqb, ne_eqb, lt-ltb, le-ltb}
use Rattle.plan_format.specs.Format.{whole_length}
use Rattle.plan_rules.specs.Rules.{refusal, cause1, cause2, cause3}
use Rattle.plan_check.specs.Parts.{from_nodes, from_conditions, from_orders}

module _ (b : List ℕ) where
  pub first : length b < 16 → 1 ≡ refusal b
  unfolding refusal cause1
  first l = simp (lt-ltb _ _ l)

  module _ (l : 16 ≤ length b) where
    pub second : cause2 b ≡ true → 2 ≡ refusal b
    unfolding refusal cause1
    second s = simp (le-ltb _ _ l, s)

    module _ (s : cause2 b ≡ false) where
      pub third : (length b ≡ whole_length b → ⊥) → 3 ≡ refusal b
      unfolding refusal cause1 cause3
      third w = simp (le-ltb _ _ l, s, ne_eqb _ _ w)

      pub rest : length b ≡ whole_length b → from_nodes b ≡ refusal b
      unfolding refusal cause1 cause3 from_nodes from_conditions from_orders
      rest w = simp (le-ltb _ _ l, s, eq-eqb _ _ w)
