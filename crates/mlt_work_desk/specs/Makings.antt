-- With what a manager is made.
use Rattle.std.specs.Prelude.{ℕ}
use Rattle.mlt_types.specs.declared.limits.Limits.{Limits}
use Rattle.mlt_manager.specs.Managers.{ManagerFields}

-- its limits, and the function from keys to pseudokeys
pub record Making (P : Type 0) : Type 0 where
  pub max_open : ℕ
  pub max_ids : ℕ
  pub max_pages : ℕ
  pub max_depth : ℕ
  pub max_ops : ℕ
  pub pseudo : P

-- the limits of a manager, and its function from keys to pseudokeys, from its beginning on
abbrev pub making_of : {P : Type 0} → ManagerFields P → Making P
making_of m = record {
  max_open = m.max_open;
  max_ids = m.max_ids;
  max_pages = m.max_pages;
  max_depth = m.root.max_depth;
  max_ops = m.max_ops;
  pseudo = m.root.pseudo;
}

-- these limits and this function
abbrev pub making_by : {P : Type 0} → Limits → P → Making P
making_by limits pseudo = record {
  max_open = limits.max_open;
  max_ids = limits.max_ids;
  max_pages = limits.max_pages;
  max_depth = limits.max_depth;
  max_ops = limits.max_ops;
  pseudo = pseudo;
}
