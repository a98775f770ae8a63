-- Names of other crates, of std and of specs/ that two files of these proofs or more import. Declares nothing.
pub use Prim.Native.Nat.{zero}
pub use Rattle.mlt_event.specs.declared.{answer.Answer.Answer, event.Event.Event, told.Told.Told}
pub use Rattle.mlt_hash.specs.Walks.{WalkContext, context_by}
pub use Rattle.mlt_hash_access.specs.{LocalStates.LocalState, LocalStates.local, Views.View, Views.view_of, CleanPages.RunningImages, CleanPages.clean_pages, Running.HoldsNothing, Running.clean_of}
pub use Rattle.mlt_hash_form.specs.{File.FilePages, File.GivesPseudokeys, File.HasForm, File.bucket_of, File.header_of, Records.IsRecordMap, Records.live_records}
pub use Rattle.mlt_manager.specs.{Answers.AnswersAbort, Answers.AnswersBegin, Answers.AnswersCall, Answers.AnswersCancel, Answers.AnswersCommit, Answers.AnswersStep, Answers.ChangesOpen, Answers.HasCalled, Answers.HasEnded, Answers.HasStepped, Answers.IsBusy, Answers.IsByAnother, Answers.IsIdleWith, Answers.IsOpenAt, Answers.IsRunning, Answers.IsUndoing, Answers.MayCall, Answers.active_after, Answers.counted, Answers.txs_after, Bases.HasBase, Bases.HasCleanPage, Bases.HasCleanPages, Bases.HasDepth, Bases.IsPendingWith, Bases.KeepsWhatCounts, Bases.LeavesBase, Bases.TakesStepBack, Bases.UndoingLeavesBase, Bases.WholeLeavesBase, Chains.StepsBy, Chains.StepsUpTo, Events.IsRun, Events.Meets, Managers.IsManager, Managers.ManagerFields, Managers.state_of, Openings.IsNew, Parts.fields_of, Promises.IsCommittedBaseOf, Promises.KeepsPromises, Promises.PassesTheChecker, Promises.lists_by, Undoings.AnswersWholeUndo, Undoings.GoesOnBack, Undoings.StopsBack, Wholes.AnswersWhole, Wholes.DropsIfItStands, Wholes.HasRun, Wholes.LetsGoOn, Wholes.StepsOnUpTo, Wholes.Stops}
pub use Rattle.mlt_manager_invariant.{specs.Copies.AreSlotsOf, specs.Copies.CopiesSlots, proofs.MaySteps.may_step, proofs.Tables.inserted_elsewhere, proofs.Tables.inserted_here, proofs.Tables.removed_here, specs.Events.KeepsCleanPages, specs.Sound.FitsAt, specs.Sound.IsSound, specs.States.State, specs.States.abstract_state_of, specs.States.all_of, specs.States.images_kept, specs.States.pending_room, specs.States.room_of, proofs.CommittedBases.with_base, specs.Traced.IsTraced}
pub use Rattle.mlt_object_base.specs.{Meaning.Means, Records.IsRecord, Records.state_of_record, declared.request.Request.Request, declared.request.Request.TheVariants.Do, Undo.Undo}
pub use Rattle.mlt_object_kinds.specs.{Bases.Base, Bases.Step, Bases.empty_base, Bases.state_at, Operations.cell_of, declared.operation.ObjOp.ObjOp, declared.operation.ObjReply.ObjReply}
pub use Rattle.mlt_object_locks.specs.Locks.{Held, IsLowestClash, SameReservations, reservation_of}
pub use Rattle.mlt_order.specs.Interleavings.{UndoneTo}
pub use Rattle.mlt_page.specs.{Values.BucketFields, Values.HeadFields, declared.page.Page.Page, declared.slot.Slot.Slot, Stores.Pages, Stores.page_at}
pub use Rattle.mlt_page_locks.specs.LockTables.{Modes, is_holder}
pub use Rattle.mlt_page_subtx.{proofs.ImageLaws.not_true, specs.Images.Images, specs.Images.Running, specs.Images.image_of}
pub use Rattle.mlt_trace.{proofs.RoomLaws.room_within_total, specs.Entries.entries_of, specs.Numbers.AreBegunInOrder, specs.Numbers.commit_count, specs.declared.item.TraceItem.TraceItem}
pub use Rattle.mlt_trace_check.specs.Traces.{ArePlaced}
pub use Rattle.mlt_tx.specs.{Steps.EndsBack, Steps.TellsOfBack, Steps.TellsOfPending, Transactions.IsPending, Transactions.StepsBack, Transactions.StepsPending, Transactions.TellsAt, Transactions.tx_state_of, declared.shared.SharedState.SharedState, declared.transaction.At.At, declared.transaction.Transaction.Transaction, Tables.CallsOneFast, Tables.KeepsImage, Tables.KeepsNoImage, Tables.Table}
pub use Rattle.mlt_tx_meaning.specs.{AbstractStates.context_of, Presences.IsOpInRange}
pub use Rattle.mlt_tx_operation.specs.{Answers.TellsOfStep, Operating.OperationFields, Operating.started_for, declared.answer.StepAnswer.StepAnswer}
pub use Rattle.mlt_types.specs.{Cells.IsInRange, Cells.key_number, declared.cell.Cell.Cell, declared.cell.Cell.TheVariants.Account, declared.cell.Cell.TheVariants.Counter, declared.cell.Cell.TheVariants.Element, declared.cell.Cell.TheVariants.Size, declared.limits.Limits.Limits, declared.mode.Mode.Mode, declared.refusal.Refusal.Refusal}
pub use Rattle.std.{proofs.Math.Nat.pow-le-pow_right, proofs.lemmas.Bool.cases_eq, proofs.lemmas.Bool.false≢true, proofs.lemmas.Bool.Decides.nat_tests, proofs.lemmas.Result.err_from_is_err_and, specs.Cmp.nat_cmp_total}
