-- Names of other crates, of std and of specs/ that two files of these proofs or more import. Declares nothing.
pub use Rattle.mlt_event.specs.declared.{answer.Answer.Answer, event.Event.Event, told.Told.Told}
pub use Rattle.mlt_manager.{proofs.Called.one_there, specs.Answers.AnswersCall, specs.Answers.HasBegunAbort, specs.Answers.HasClosed, specs.Answers.HasCommitted, specs.Answers.IsByAnother, specs.Answers.IsIdle, specs.Answers.IsOpenAt, specs.Answers.IsUndoing, specs.Answers.counted, specs.Bases.HasBase, specs.Bases.UndoingLeavesBase, specs.Events.Meets, specs.Managers.IsManager, specs.Managers.ManagerFields, specs.Promises.lists_by}
pub use Rattle.mlt_manager_invariant.proofs.Tables.{inserted_elsewhere, inserted_here, removed_elsewhere}
pub use Rattle.mlt_manager_solo.specs.{Alone.HasOne, Alone.HasOneIdle, Alone.HasOneUndoing, Alone.IsAtRest, Alone.KeepsCommitted, Asking.CanMark, Asking.HasAsked, Asking.HasRunAll, Asking.HasRunScript, Asking.IsRefused, Asking.IsTakenBack, Events.begun_by, Events.done_by}
pub use Rattle.mlt_object_kinds.specs.{Bases.Base, Bases.Step, Bases.Transcript, Bases.empty_base, declared.operation.ObjOp.ObjOp, declared.operation.ObjReply.ObjReply}
pub use Rattle.mlt_order.{proofs.Growing.follow_push, specs.Histories.Entry, specs.Histories.IsHistory, specs.Histories.no_lists}
pub use Rattle.mlt_script_serial.specs.{Serial.mark_of, Texts.outcome_text, declared.outcome.End.End, declared.outcome.End.TheVariants.Aborted, declared.outcome.End.TheVariants.Committed, declared.outcome.End.TheVariants.Refused, declared.outcome.Outcome.Outcome}
pub use Rattle.mlt_script.specs.{Scripts.ScriptForm, declared.statement.Ending.Ending}
pub use Rattle.mlt_trace.{proofs.ItemLaws.entries_of-append, specs.Entries.entries_of, specs.declared.item.TraceItem.TraceItem}
pub use Rattle.mlt_tx.specs.{declared.transaction.At.At, declared.transaction.Transaction.Transaction, Tables.Table}
pub use Rattle.mlt_types.specs.declared.refusal.Refusal.{Refusal}
