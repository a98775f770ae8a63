-- Names of other crates, of std and of specs/ that two files of these proofs or more import. Declares nothing.
pub use Rattle.mlt_object_conflicts.specs.{AccountTable.account_breach, AccountTable.account_class, AccountTable.account_item, AccountTable.account_marks, Clashes.clashes, Clashes.marked_classes, CounterTable.counter_class, CounterTable.counter_marks, ElementTable.element_before, ElementTable.element_class, ElementTable.element_item, ElementTable.element_marks, Sizes.base_of_one, Sizes.changes_told, Sizes.on_element, Sizes.told_size, Tables.BreaksAt, Tables.ClassesCommute, Tables.ClassesConflict, Tables.IsOfClass, Tables.paired, declared.accounts.AccountClass.AccountClass, declared.accounts.AccountClass.TheVariants.Opened, declared.counters.CounterClass.CounterClass, declared.elements.ElementClass.ElementClass, declared.elements.ElementClass.TheVariants.Added, declared.elements.ElementClass.TheVariants.Removed}
pub use Rattle.mlt_object_kinds.{proofs.BaseLaws.base_one_answer, proofs.BaseLaws.state_here, proofs.BaseLaws.step_to, specs.Accounts.AccountStep, specs.Accounts.IsLegalOnAccount, specs.Accounts.account_after, specs.Bases.Base, specs.Bases.Step, specs.Bases.empty_base, specs.Bases.state_at, specs.Bases.with_state, specs.Cells.CellStep, specs.Cells.CellState.AccountState, specs.Cells.CellState.CounterState, specs.Cells.CellState.ElementState, specs.Cells.CellState.NoState, specs.Counters.CounterStep, specs.Counters.IsLegalOnCounter, specs.Counters.counter_after, specs.Elements.ElementStep, specs.Elements.IsLegalOnElement, specs.Elements.element_after, specs.declared.account.AccountOp.AccountOp, specs.declared.account.AccountOp.TheVariants.Deposit, specs.declared.account.AccountOp.TheVariants.Withdraw, specs.declared.counter.CounterOp.CounterOp, specs.declared.element.ElementOp.ElementOp, specs.declared.element.ElementOp.TheVariants.Add, specs.declared.operation.ObjOp.ObjOp, specs.declared.operation.ObjOp.TheVariants.Account, specs.declared.operation.ObjOp.TheVariants.Counter, specs.declared.operation.ObjOp.TheVariants.Element, specs.declared.operation.ObjOp.TheVariants.Size, specs.declared.operation.ObjReply.ObjReply, specs.declared.operation.ObjReply.TheVariants.Is}
pub use Rattle.mlt_order.specs.Runs.{RightCommutesBackward}
pub use Rattle.mlt_types.specs.declared.cell.Cell.{Cell}
pub use Rattle.std.proofs.lemmas.Bool.{cases_eq}
