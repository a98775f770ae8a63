-- Names of other crates, of std and of specs/ that two files of these proofs or more import. Declares nothing.
pub use Rattle.mlt_script.specs.{Grammar.AreLawful, Grammar.AreOpen, Grammar.AreScripts, Grammar.AreSpelled, Grammar.AreWhole, Grammar.IsFault, Grammar.IsFirstFaultOf, Grammar.IsLawful, Grammar.IsSound, Grammar.IsSpelled, Grammar.IsSpelledOpen, Grammar.IsSpelledScript, Grammar.form_in, Grammar.forms_of, Parsers.state_of, Readings.IsReading, Readings.said_by, Scan.Advances, Scan.Gives, Scan.Refuses, Scan.ScanState, Scan.advance, Scan.after, Scan.at_end, Scan.ended, Scan.line_fault, Scan.said, Scan.step, Scan.ScanState.Inside, Scan.ScanState.Outside, declared.forms.LineForm.LineForm, declared.forms.LineForm.TheVariants.Begins, declared.forms.LineForm.TheVariants.Closes, declared.forms.LineForm.TheVariants.Says, declared.frame.Frame.Frame, declared.line.ScriptReading.ScriptReading, declared.line.ScriptReading.TheVariants.Bad, declared.line.ScriptReading.TheVariants.Form, declared.line.ScriptReading.TheVariants.Skip, Blocks.Block, Blocks.Open, Blocks.deepest, Blocks.depth, Blocks.grow, Blocks.join, Blocks.longest, Blocks.nesting, Blocks.path, Blocks.widest, Blocks.Block.If, Blocks.Block.Nothing, Blocks.Block.Then, Blocks.Open.InFirst, Blocks.Open.InSecond, Blocks.Open.Top, Scripts.IsScript, Scripts.ScriptForm, Scripts.one_more, Scripts.open_of, Scripts.whole, declared.statement.Asking.Asking, declared.statement.Ending.TheVariants.Commit, declared.statement.Line.Line, declared.statement.Line.TheVariants.Else, declared.statement.Line.TheVariants.End, declared.statement.Line.TheVariants.Plain, declared.statement.Statement.Statement, declared.statement.Statement.TheVariants.Ask, declared.statement.Wanted.Wanted}
pub use Rattle.mlt_text_words.specs.{Fronts.TextIs, Lines.Raw, Lines.is_allowed, Lines.is_comment, Words.number_at, Words.word_at, Words.words_of, declared.keyword.Keyword.Keyword, declared.keyword.Word.Word, declared.keyword.Word.TheVariants.Key, declared.keyword.Word.TheVariants.Number, declared.keyword.Word.TheVariants.Other, declared.keyword.Word.TheVariants.Variable}
pub use Rattle.mlt_types.specs.declared.refusal.{Refusal.Refusal, Refusal.TheVariants.OutOfMemory, Refusal.TheVariants.ScriptFault, ScriptCause.ScriptCause}
pub use Rattle.std.{proofs.lemmas.List.map-append, proofs.lemmas.List.reverse-append, specs.List.list_all}
