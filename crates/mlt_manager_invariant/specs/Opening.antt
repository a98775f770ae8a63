-- The state in which a manager begins
use Rattle.std.specs.Prelude.{ℕ}
use Rattle.std.specs.FinMap as map
use Rattle.std.specs.FinSet as set
use Rattle.mlt_object_kinds.specs.Bases.{empty_base}
use Rattle.mlt_tx.specs.declared.shared.SharedState.{SharedState}
use Rattle.mlt_manager_invariant.specs.States.{State}

-- the state in which nobody has begun
abbrev pub opening_state : (ℕ → ℕ) → ℕ → ℕ → ℕ → SharedState → State
opening_state bits root max_depth max_ops shared = record {
  bits = bits;
  root = root;
  max_depth = max_depth;
  max_ops = max_ops;
  shared = shared;
  txs = map.empty;
  images = map.empty;
  active = set.empty;
  begun = 0;
  base = empty_base;
}
