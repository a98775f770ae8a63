-- Names of other crates, of std and of specs/ that two files of these proofs or more import. Declares nothing.
pub use Rattle.mlt_event.specs.declared.{answer.Answer.Answer, event.Event.Event, told.Told.Told}
pub use Rattle.mlt_manager.specs.{Answers.counted, Events.Meets, Managers.ManagerFields}
pub use Rattle.mlt_object_kinds.specs.declared.operation.{ObjOp.ObjOp, ObjReply.ObjReply}
pub use Rattle.mlt_script_serial.specs.declared.call.{DeskAnswer.TheVariants.Aborted, DeskAnswer.TheVariants.Replied, DeskCall.DeskCall}
pub use Rattle.mlt_trace.specs.declared.item.TraceItem.{TraceItem}
pub use Rattle.mlt_types.specs.declared.refusal.Refusal.{Refusal}
pub use Rattle.mlt_work_desk.specs.{Holds.EndsWithOp, Holds.IfReply, Holds.IsToldTo, Holds.SeesAnswer, Holds.SeesEvent}
pub use Rattle.mlt_work_desk.specs.{Prefixes.StartsWith, LogHandles.first_items}
pub use Rattle.mlt_work_waits.specs.{Turns.is_done, Waits.Waits, declared.turn.SleepingThread.SleepingThread, declared.wait.Awaited.Awaited, declared.wait.Waiting.Waiting}
pub use Rattle.std.proofs.lemmas.Bool.{false≢true}
