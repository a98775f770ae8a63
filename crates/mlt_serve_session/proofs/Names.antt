-- Names of other crates, of std and of specs/ that two files of these proofs or more import. Declares nothing.
pub use Rattle.mlt_event_text.{proofs.Cutting.empty, proofs.Splitting.splits_both, specs.Inputs.Splits, specs.Inputs.lines_of, specs.declared.command.Command.Command, specs.declared.session_line.SessionLine.SessionLine, specs.declared.session_line.SessionLine.TheVariants.Says, specs.declared.session_line.SessionLine.TheVariants.TooLong}
pub use Rattle.mlt_object_kinds.specs.declared.operation.{ObjOp.ObjOp, ObjReply.ObjReply}
pub use Rattle.mlt_script_serial.specs.{Calls.Moves, declared.call.DeskAnswer.DeskAnswer, declared.call.DeskAnswer.TheVariants.Begun, declared.call.DeskAnswer.TheVariants.Committed, declared.call.DeskAnswer.TheVariants.Refused, declared.call.DeskAnswer.TheVariants.Replied, declared.call.DeskCall.DeskCall, declared.outcome.End.End, declared.outcome.Outcome.Outcome}
pub use Rattle.mlt_serve_session.specs.{Batches.Covers, Batches.IsRest, Batches.Reaches, Batches.front, Batches.lines_in, Given.GaveAll, Noting.committed_noted, Outcomes.all_done, Outcomes.before_next, Outcomes.begins_by, Outcomes.begun_in, Outcomes.call_of, Outcomes.done_in, Outcomes.end_in, Outcomes.ended_by, Outcomes.outcome_behind, Outcomes.outcome_if, Outcomes.outcome_of, Outcomes.outcomes_of, Outcomes.up_to, Rounds.AreLines, Rounds.Broken, Rounds.BrokenHeard, Rounds.EndsInput, Rounds.Listens, Rounds.Talked, Rounds.streams, Talks.Turn, Talks.call_for, Talks.ends, Talks.open_after, Talks.turn_text, Talks.turns, Turns.Asked, Turns.Goes, Turns.TalkState, Turns.talk_state}
pub use Rattle.mlt_text.{proofs.Pieces.on_err_all, specs.Texts.AppendsFront}
pub use Rattle.std.{proofs.KnownBytes.Appends-nil, proofs.KnownBytes.Consumes-nil, proofs.lemmas.Grind.flat_map-append, proofs.lemmas.List.Elements.All-nil, proofs.lemmas.Result.err_from_is_err_and}
