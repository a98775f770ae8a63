-- Names of other crates, of std and of specs/ that two files of these proofs or more import. Declares nothing.
pub use Rattle.mlt_object_kinds.specs.declared.operation.{ObjOp.ObjOp, ObjReply.ObjReply}
pub use Rattle.mlt_script_serial.specs.{Calls.Moves, declared.call.DeskAnswer.DeskAnswer, declared.call.DeskCall.DeskCall, declared.outcome.Outcome.Outcome}
pub use Rattle.mlt_serve.specs.{Clients.AreOfClients, Clients.GrowsFor, Clients.IsOf, Clients.IsOfClient, Tellings.TellsOutcomes, Threads.AllHaveMemory, Threads.all_outcomes}
pub use Rattle.mlt_trace.specs.declared.item.TraceItem.{TraceItem}
pub use Rattle.mlt_trace_audit.{proofs.Placed.ops_of-append, specs.Outcomes.ops_of}
pub use Rattle.mlt_work_desk.specs.{LogHandles.first_items, LogHandles.id_of, Makings.making_by, Prefixes.StartsWith, Views.IsSubsequence}
pub use Rattle.std.proofs.lemmas.List.{Elements.All-append, Elements.All-nil, Elements.All-push, Elements.All-weaker, Sorted.All-permutation, Sorted.IsPermutation-append_right, Sorted.IsPermutation-trans}
