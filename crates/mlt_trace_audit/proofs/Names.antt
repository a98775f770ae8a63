-- Names of other crates, of std and of specs/ that two files of these proofs or more import. Declares nothing.
pub use Rattle.mlt_object_kinds.specs.{Packing.parts_of, declared.operation.ObjOp.ObjOp, declared.operation.ObjReply.ObjReply}
pub use Rattle.mlt_order.{proofs.RunLemmas.contains-first, proofs.RunLemmas.contains-later, proofs.RunLemmas.contains-nothing, proofs.Tables.changed, specs.Histories.Lists, specs.Histories.Stage.Ended, specs.Histories.Stage.Running}
pub use Rattle.mlt_script_serial.specs.declared.outcome.{End.TheVariants.Committed, Outcome.Outcome}
pub use Rattle.mlt_trace.{proofs.ItemLaws.begun_txs-append, specs.Numbers.AreBegunInOrder, specs.Numbers.CountsFrom, specs.Numbers.begin_count, specs.Numbers.begun_txs, specs.declared.item.TraceItem.TraceItem, specs.declared.item.TraceItem.TheVariants.Abort, specs.declared.item.TraceItem.TheVariants.Back, specs.declared.item.TraceItem.TheVariants.Begin, specs.declared.item.TraceItem.TheVariants.Commit, specs.declared.item.TraceItem.TheVariants.Op, proofs.BegunLaws.first_or_later}
pub use Rattle.mlt_trace_audit.specs.{Agreement.IsOnce, Agreement.NumbersAgree, Agreement.count_of, Ordered.AreOrdered, Ordered.StandsBehind, Ordered.is_told, Ordered.tx_of, Outcomes.HasNothing, Outcomes.IsOfHistory, Outcomes.RisesTo, Outcomes.closing_by, Outcomes.closings_of, Outcomes.ops_of, Outcomes.Closing.ByAbort, Outcomes.Closing.ByCommit}
pub use Rattle.mlt_trace_check.{proofs.Growing.begun_stays, proofs.Growing.number_in, proofs.Growing.stage-other, proofs.Growing.told-push, proofs.Lasting.runs_begun, specs.Traces.ArePlaced, specs.Traces.HasPlace, specs.Traces.told}
pub use Rattle.std.proofs.lemmas.{Bool.cases_eq, List.Elements.All-contains, List.Sums.sum_by-cons, Option.slice_get-get_or, Option.slice_get_within, Bool.Decides.nat_tests, List.Elements.All-weaker, Option.same_Some, Option.slice_get_read}
