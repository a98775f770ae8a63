-- Names of other crates, of std and of specs/ that two files of these proofs or more import. Declares nothing.
pub use Rattle.mlt_object_kinds.{proofs.BaseLaws.base_one_answer, specs.Bases.Base, specs.Bases.Step, specs.Bases.empty_base, specs.declared.operation.ObjOp.ObjOp, specs.declared.operation.ObjReply.ObjReply}
pub use Rattle.mlt_order.{proofs.RunLemmas.contains-first, proofs.RunLemmas.serial_push, proofs.Tables.at_each, proofs.Tables.changed, specs.Histories.Lists, specs.Histories.Stage, specs.Histories.after_entry, specs.Histories.no_lists, specs.Histories.Stage.Ended, specs.Histories.Stage.Fresh, specs.Histories.Stage.Running, specs.Runs.IsSerialBase, specs.Runs.Runs}
pub use Rattle.mlt_text.{proofs.Pieces.on_err_all, specs.Failures.IsWant, specs.Texts.AppendsFront}
pub use Rattle.mlt_text_words.specs.{Lines.Raw, Lines.is_allowed, Lines.is_lf, Lines.lines, Words.raw_words}
pub use Rattle.mlt_trace.{proofs.ItemLaws.begun_txs-append, proofs.ItemLaws.entries_of-append, specs.Entries.entries_of, specs.Entries.entry_of, specs.Numbers.begun_txs, specs.Numbers.commit_count, specs.Numbers.committed_txs, specs.declared.item.TraceItem.TraceItem, specs.declared.item.TraceItem.TheVariants.Abort, specs.declared.item.TraceItem.TheVariants.Back, specs.declared.item.TraceItem.TheVariants.Begin, specs.declared.item.TraceItem.TheVariants.Commit, specs.declared.item.TraceItem.TheVariants.Op}
pub use Rattle.mlt_trace_check.specs.{Answering.Answers, Checkers.Knows, Checkers.Takes, LongChecks.GoesOn, LongChecks.IsDone, LongTexts.WritesOfFront, OrderTexts.order_text, OrderTexts.serial_lines, Progresses.GoesOver, Progresses.Refuses, Progresses.StopsIn, Progresses.WentOver, Readings.item_or_fault, Replaying.IsFalseAt, Replaying.Replays, Replaying.dones, Settled.IsSettled, Traces.ArePlaced, Traces.HasFalseReply, Traces.HasPlace, Traces.IsAcceptedTrace, Traces.IsFirstFault, Traces.IsFirstFaultOf, Traces.IsItemFault, Traces.IsLineFault, Traces.IsRunning, Traces.IsTrace, Traces.IsWhole, Traces.told, declared.checker.Checker.Checker, declared.checker.OpenTx.OpenTx, declared.progress.Progress.Progress, declared.reading.TraceReading.TraceReading, declared.reading.TraceReading.TheVariants.Bad, declared.reading.TraceReading.TheVariants.Says}
pub use Rattle.mlt_types.specs.declared.refusal.{Refusal.Refusal, Refusal.TheVariants.Io, Refusal.TheVariants.OutOfMemory, Refusal.TheVariants.TraceFault, TraceCause.TraceCause}
pub use Rattle.std.{proofs.KnownBytes.Appends-nil, proofs.KnownBytes.Appends-trans, proofs.KnownBytes.Consumes-nil, proofs.lemmas.Bool.cases_eq, proofs.lemmas.List.map-append, proofs.lemmas.List.Elements.Contains-append_left, proofs.lemmas.Result.err_from_is_err_and, specs.Io.KnownBytes.Appends, specs.List.list_all}
