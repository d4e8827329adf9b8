-- Inner contracts: sizes that can be added. Definitions only.
use Rattle.std.specs.Prelude.{◌^◌, ◌<◌}
use Rattle.plan_layout.specs.declared.Sizes.{Sizes}

pub record Narrow (s : Sizes) : Type 0 where
  pub nodes : s.nodes < 2 ^ 32
  pub conditions : s.conditions < 2 ^ 32
  pub orders : s.orders < 2 ^ 32
