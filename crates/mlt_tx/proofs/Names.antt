-- Names of other crates, of std and of specs/ that two files of these proofs or more import. Declares nothing.
pub use Prim.Native.Nat.{zero}
pub use Rattle.mlt_event.specs.declared.answer.Answer.{Answer}
pub use Rattle.mlt_hash.specs.Walks.{WalkContext, context_in}
pub use Rattle.mlt_hash_access.specs.LocalStates.{LocalState, local}
pub use Rattle.mlt_object_base.specs.{Effects.inverse_of, declared.request.Request.TheVariants.TakeBack}
pub use Rattle.mlt_object_kinds.specs.{Bases.Step, declared.operation.ObjOp.ObjOp, declared.operation.ObjReply.ObjReply}
pub use Rattle.mlt_object_locks.specs.Locks.{HoldsClash, SameReservations}
pub use Rattle.mlt_order.specs.Interleavings.{UndoneTo}
pub use Rattle.mlt_page_locks.proofs.Maps.{get_inserted, same_entries}
pub use Rattle.mlt_page_subtx.specs.Images.{Running}
pub use Rattle.mlt_trace.specs.declared.item.TraceItem.{TraceItem}
pub use Rattle.mlt_tx.specs.{Fast.StepsFast, Fast.called_with, OpenAt.IsBusy, Standing.standing_in, Steps.TellsOfStart, Tables.ChangesOne, Tables.Table, Transactions.IsPending, Transactions.IsUndoing, Transactions.LeavesRoom, Transactions.pending_after, TxSlots.AreTxSlots, TxSlots.LackImage, TxSlots.is_free, TxSlots.is_slot_of, TxSlots.table_of, declared.shared.SharedState.SharedState, declared.transaction.At.At, declared.transaction.Transaction.Transaction, declared.tx_slot.TxSlot.TxSlot}
pub use Rattle.mlt_tx_operation.specs.Operating.{OperationFields, started_for}
pub use Rattle.std.proofs.lemmas.{Bool.cases_eq, Bool.Decides.nat_tests, Result.on_err_weaker}
