-- What handing out items of the history does to a manager
use Rattle.std.specs.Prelude.{List, ◌≡◌}
use Rattle.mlt_trace.specs.declared.item.TraceItem.{TraceItem}
use Rattle.mlt_manager.specs.Managers.{ManagerFields}

-- the manager, with these items of its history handed out
abbrev pub with_handed : {P : Type 0} → List TraceItem → ManagerFields P → ManagerFields P
with_handed handed m = record m {
  shared = record m.shared { history = record m.shared.history { handed = handed } };
}

-- all stays but which items were handed out: the history is the same
pub record HandsOut {P : Type 0} (old new : ManagerFields P) : Type 0 where
  pub same : new ≡ with_handed new.shared.history.handed old
