-- Inner contracts: what is asked of bytes of which the fields are read. Definitions only.
use Rattle.std.specs.Prelude.{ℕ, ◌+◌, ◌*◌, ◌≤◌, ◌≡◌, List, length}
use Rattle.plan_format.specs.Format.{node_count, cond_count, order_count, flag_count}

-- the sizes are within their limits
pub record Limits (b : List ℕ) : Type 0 where
  pub long : 16 ≤ length b
  pub some_node : 1 ≤ node_count b
  pub nodes : node_count b ≤ 128
  pub conditions : cond_count b ≤ 1024
  pub orders : order_count b ≤ 512
  pub some_flag : 1 ≤ flag_count b
  pub flags : flag_count b ≤ 64

-- and the length is the one that they give: every field can be read
pub record Whole (b : List ℕ) : Type 0 where
  pub limits : Limits b
  pub whole : length b ≡ 16 + 8 * node_count b + 3 * cond_count b + 2 * order_count b
