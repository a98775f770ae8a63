-- Names of other crates, of std and of specs/ that two files of these proofs or more import. Declares nothing.
pub use Rattle.mlt_event.specs.declared.answer.Answer.{Answer}
pub use Rattle.mlt_hash.specs.{Walks.HasRead, Walks.Stands, Walks.WalkContext, Walks.WalkFields, declared.pass.Phase.Phase}
pub use Rattle.mlt_hash_access.{proofs.AllEvents.close_clean, proofs.AllEvents.close_keeps, proofs.AllEvents.end_clean, proofs.AllEvents.end_keeps, proofs.AllEvents.nothing_after_roll_back, proofs.AllEvents.nothing_at_end, proofs.AllRunning.agrees_with_each, specs.CleanPages.RunningImages, specs.CleanPages.clean_pages, specs.LocalStates.LocalState, specs.LocalStates.local, specs.PageTurns.TakesTurn, specs.PageTurns.TurnsBack, specs.Running.AllMayStep, specs.Running.AllRunning, specs.Running.HoldsNothing, specs.Running.KeepsRunning, specs.Running.after_close, specs.Running.after_end, specs.Running.after_roll_back, specs.Running.after_step, specs.Running.clean_of, specs.Running.images_by, specs.Running.is_open, specs.Running.local_of, specs.Views.View, specs.Views.view_of, specs.declared.locked_store.LockedStore.LockedStore}
pub use Rattle.mlt_hash_form.specs.Held.{Agrees}
pub use Rattle.mlt_manager_invariant.specs.{Events.KeepsCleanPages, Events.with_transaction, Sound.Fits, Sound.FitsAt, Sound.HasInverse, Sound.HasPending, Sound.IsSound, States.State, States.abstract_state_of, States.all_of, States.images_kept, States.is_undoing, States.is_undoing_at, States.pending_room, States.room_of, States.undoing_of, Traced.IsTraced, Undoing.LedBack, Undoing.TakesLastBack}
pub use Rattle.mlt_object_base.specs.{Effects.changes_on, Effects.inverse_of, Effects.own_change_on, Requests.decision, Requests.size_key_of, Requests.target_of, Undo.Undo, declared.record.RecChange.RecChange, declared.request.Request.Request, declared.request.Request.TheVariants.Do, declared.request.Request.TheVariants.TakeBack}
pub use Rattle.mlt_object_conflicts.specs.Clashes.{clashes}
pub use Rattle.mlt_object_kinds.specs.{Bases.Base, Bases.Step, Operations.cell_of, declared.operation.ObjOp.ObjOp, declared.operation.ObjReply.ObjReply}
pub use Rattle.mlt_object_locks.specs.Locks.{Held, HoldsClash, Locks, SameReservations, is_of_other, reservation_of}
pub use Rattle.mlt_order.{proofs.Growing.after_entries-push, proofs.Growing.but_last-push, proofs.Tables.changed, specs.Histories.Entry, specs.Histories.Lists, specs.Histories.after_entry, specs.Histories.but_last, specs.Histories.lists_of, specs.Histories.no_lists, specs.Histories.Entry.TookBack, specs.Interleavings.items_of, specs.Tables.SameElsewhere}
pub use Rattle.mlt_page.specs.declared.page.Page.{Page}
pub use Rattle.mlt_page_locks.{proofs.Maps.get_removed, proofs.Maps.same_entries, specs.Requests.released}
pub use Rattle.mlt_page_subtx.specs.Images.{Images, Running, put_back, started}
pub use Rattle.mlt_trace.{proofs.ItemLaws.entries_of-append, proofs.ItemLaws.no_begin, proofs.ItemLaws.no_commit, proofs.RoomLaws.total_room-insert, proofs.RoomLaws.total_room-remove, specs.Entries.entries_of, specs.HistoryItems.ItemsWithRoom, specs.Numbers.AreBegunInOrder, specs.Numbers.AreCounted, specs.Numbers.CountsFrom, specs.Numbers.begin_count, specs.Numbers.begun_txs, specs.Numbers.commit_count, specs.Numbers.commit_numbers, specs.Rooms.total_room, specs.declared.item.TraceItem.TraceItem}
pub use Rattle.mlt_trace_check.{proofs.Places.whole_more, specs.Traces.ArePlaced, specs.Traces.HasPlace, specs.Traces.IsWhole, specs.Traces.told}
pub use Rattle.mlt_tx.specs.{Transactions.tx_state_of, declared.shared.SharedState.SharedState, declared.transaction.At.At, declared.transaction.Transaction.Transaction}
pub use Rattle.mlt_tx_meaning.{proofs.Matches.same_pages_match, proofs.TwoEnds.sees_held_alone, proofs.WalkEnds.walk_leaves_change, proofs.Walks.found_is_record, proofs.Walks.no_more_by_end, specs.AbstractStates.AbstractState, specs.AbstractStates.PagesMeanHistory, specs.AbstractStates.context_of, specs.AbstractStates.lists_in, specs.Ends.ChangesPages, specs.Ends.EndsWith, specs.Events.MayUndo, specs.Presences.IsOpInRange}
pub use Rattle.mlt_tx_operation.{proofs.Operations.starts, specs.Operating.IsOperating, specs.Operating.OperatesBy, specs.Operating.OperationFields, specs.Operating.StandsOrTold, specs.Operating.started_for, specs.Walking.FitsPhase, specs.Walking.IsWalking, specs.Walking.walking, specs.declared.access_path.AccessPath.AccessPath, specs.declared.access_path.AccessPath.TheVariants.One, specs.declared.access_path.AccessPath.TheVariants.Two}
pub use Rattle.mlt_tx_two_records.{proofs.LeftRecords.leaves_as_told, specs.Leaving.LeavesAsTold, specs.Performing.Performs, specs.TwoRecordWalks.IsTold, specs.declared.two_records.TwoRecordWalk.TwoRecordWalk}
pub use Rattle.mlt_types.specs.{Cells.IsInRange, declared.mode.Mode.Mode}
pub use Rattle.std.proofs.lemmas.{Bool.cases_eq, Bool.false≢true, Bool.Decides.nat_tests, List.Elements.Contains-append_right, Option.none-some}
