-- Inner contracts: what the bytes of a generated plan are worked out from. Definitions only.
use Rattle.std.specs.Prelude.{◌≡◌, List, ℕ}
use Rattle.plan_layout.specs.declared.Sizes.{Sizes}
use Rattle.plan_draws.specs.declared.Recipe.{Recipe}
use Rattle.plan_draws.specs.Drawn.{Allowed}
use Rattle.plan_draws.specs.Inner.{Drew, OrdersFound}
use Rattle.plan_generate.specs.Model.{sizes_in}

-- the tables of draws and of orders, and the sizes, are those of the recipe
pub record Prepared (r : Recipe) (draws ordered : List ℕ) (sizes : Sizes) : Type 0 where
  pub allowed : Allowed r
  pub drew : Drew r.seed draws
  pub found : OrdersFound r sizes.orders ordered
  pub sized : sizes ≡ sizes_in r
