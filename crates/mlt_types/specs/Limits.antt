-- The ranges of a manager's limits.
use Rattle.std.specs.Prelude.{ℕ, ◌<◌, ◌≤◌, ◌^◌}

-- the limits of a manager are in their ranges
pub record AreInRange (max_open max_ids max_pages max_depth max_ops : ℕ) : Type 0 where
  pub open_least : 1 ≤ max_open
  pub open_most : max_open ≤ 64
  pub ids_least : 1 ≤ max_ids
  pub ids_most : max_ids < 2 ^ 63
  pub pages_least : 3 ≤ max_pages
  pub pages_most : max_pages ≤ 70000
  pub depth_most : max_depth ≤ 16
  pub ops_least : 1 ≤ max_ops
  pub ops_most : max_ops ≤ 1024
