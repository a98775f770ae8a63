-- Names of other crates, of std and of specs/ that two files of these proofs or more import. Declares nothing.
pub use Rattle.mlt_hash.specs.{Passes.slot_after, Passes.value_after, Walks.StoodBefore, Walks.WalkFields, declared.pass.Change.Change, declared.pass.Change.TheVariants.Set}
pub use Rattle.mlt_hash_access.specs.Views.{View}
pub use Rattle.mlt_hash_form.specs.{Changes.slot_of, File.FilePages, File.GivesPseudokeys, File.HasForm, File.bucket_of, File.buckets_of, File.header_of, File.lead_of, File.look_up, Form.slot_at, Held.Agrees, Held.over, Held.own_or_clean, Records.live_records}
pub use Rattle.mlt_hash_ghosts.{proofs.Moves.rearranged_moved, specs.Ghosts.PagesMatchOperations, specs.Ledgers.Ledger, specs.Ledgers.NoOtherLast, specs.Ledgers.last_by, specs.Operations.Added, specs.Operations.Appends, specs.Operations.Presence, specs.Operations.Removed, specs.Operations.Standing, specs.Operations.last_of}
pub use Rattle.mlt_object_base.{proofs.Meanings.record_beside, specs.Effects.changes_on, specs.Effects.inverse_of, specs.Effects.own_change_on, specs.Effects.reply_of, specs.Effects.size_change_of, specs.Effects.size_change_on, specs.Effects.size_inverse_of, specs.Meaning.Means, specs.Meaning.changes_back, specs.Meaning.changes_of, specs.Meaning.record_in, specs.Meaning.records_after, specs.Meaning.size_record_in, specs.Meaning.told_by, specs.Records.CanChange, specs.Records.HasSizeToUndo, specs.Records.HasWhatIsUndone, specs.Records.IsElementRecord, specs.Records.IsRecord, specs.Records.counter_of_record, specs.Records.record_after, specs.Records.state_of_record, specs.Requests.CanResize, specs.declared.record.RecChange.RecChange, specs.declared.record.RecChange.TheVariants.Minus, specs.declared.record.RecChange.TheVariants.Plus, specs.declared.record.RecChange.TheVariants.ToGhost, specs.declared.record.RecordChanges.RecordChanges, specs.declared.request.Request.TheVariants.TakeBack}
pub use Rattle.mlt_object_conflicts.proofs.BaseOrder.{base_functional, base_injective}
pub use Rattle.mlt_object_kinds.specs.{Accounts.AccountStep, Accounts.IsAccount, Accounts.max_balance, Bases.Base, Bases.Step, Bases.Transcript, Bases.empty_base, Bases.state_at, Cells.CellState, Cells.CellStep, Cells.CellState.AccountState, Cells.CellState.CounterState, Cells.CellState.ElementState, Cells.CellState.NoState, Counters.CounterStep, Elements.ElementStep, Operations.cell_of, declared.account.AccountOp.AccountOp, declared.account.AccountOp.TheVariants.Balance, declared.account.AccountOp.TheVariants.Close, declared.account.AccountOp.TheVariants.Deposit, declared.account.AccountOp.TheVariants.Open, declared.account.AccountOp.TheVariants.Withdraw, declared.counter.CounterOp.CounterOp, declared.counter.CounterOp.TheVariants.Down, declared.counter.CounterOp.TheVariants.Read, declared.counter.CounterOp.TheVariants.Up, declared.element.ElementOp.ElementOp, declared.operation.ObjOp.ObjOp, declared.operation.ObjOp.TheVariants.Account, declared.operation.ObjOp.TheVariants.Counter, declared.operation.ObjOp.TheVariants.Element, declared.operation.ObjOp.TheVariants.Size, declared.operation.ObjReply.ObjReply}
pub use Rattle.mlt_order.{proofs.RunLemmas.contains-first, proofs.RunLemmas.contains-nothing, proofs.Tables.changed, specs.Histories.IsHistory, specs.Histories.Lists, specs.Histories.after_entry, specs.Histories.no_lists, specs.Histories.Stage.Fresh, specs.Histories.Stage.Running, specs.Tables.Gains, specs.Tables.table_with}
pub use Rattle.mlt_page.specs.{Slots.is_kept, declared.page.Page.Page, declared.slot.Slot.TheVariants.Free, declared.slot.Slot.TheVariants.Ghost, declared.slot.Slot.TheVariants.Live}
pub use Rattle.mlt_tx_meaning.specs.{AbstractStates.AbstractState, AbstractStates.IsFileWithGhosts, AbstractStates.PagesMeanHistory, AbstractStates.context_of, AbstractStates.ledger_of, AbstractStates.ledger_with, AbstractStates.lists_in, AbstractStates.record_at, AbstractStates.record_of, AbstractStates.size_record_of, AbstractStates.stood_in, Ends.ChangesPages, Ends.KeepsPages, Ends.LeavesChange, Events.IsOpenAt, Events.MayDo, Events.MayUndo, Presences.account_amount, Presences.account_presence, Presences.amount_of, Presences.counter_amount, Presences.element_presence, Presences.op_key, Presences.presence_of, Presences.presences_on, Presences.standing_of}
pub use Rattle.mlt_tx_two_records.specs.Performing.{Performs}
pub use Rattle.mlt_types.specs.{Cells.IsInRange, Cells.key_number, declared.cell.Cell.Cell}
pub use Rattle.std.{proofs.lemmas.Bool.both_ways, proofs.lemmas.Bool.cases_eq, proofs.lemmas.Bool.false≢true, specs.Cmp.nat_cmp_total, specs.Cmp.unsigned_tied}
