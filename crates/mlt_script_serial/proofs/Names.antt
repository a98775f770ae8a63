-- Names of other crates, of std and of specs/ that two files of these proofs or more import. Declares nothing.
pub use Rattle.mlt_object_kinds.specs.{Bases.Transcript, declared.operation.ObjOp.ObjOp, declared.operation.ObjReply.ObjReply}
pub use Rattle.mlt_script_serial.specs.{Cursors.questions_of, Follows.AsksAtMost, Follows.IsNext, Follows.Questions, Follows.Reaches, Follows.Variables, Follows.answered, Follows.goes_on, Follows.is_wanted, Follows.no_values, Follows.questions, Follows.questions_of_script, Follows.set_by, Follows.Questions.Asks, Follows.Questions.Ends, Hearing.after_hearing, Hearing.heard, Hearing.heard_values, Plays.Gives, declared.cursor.Next.Next, declared.skipping.Skipping.TheVariants.Nowhere, declared.skipping.Skipping.TheVariants.ToElse, declared.skipping.Skipping.TheVariants.ToEnd}
pub use Rattle.mlt_script.specs.{Blocks.Block, Blocks.lines_of, Blocks.longest, Blocks.Block.If, Blocks.Block.Nothing, Blocks.Block.Then, Scripts.ScriptForm, declared.statement.Ending.Ending, declared.statement.Ending.TheVariants.Abort, declared.statement.Line.Line}
pub use Rattle.std.proofs.lemmas.List.{drop_all}
