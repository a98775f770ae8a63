-- The state that a parser is in.
use Rattle.std.specs.Prelude.{List, Option, Some, None}
use Rattle.mlt_script.specs.{declared.open_script.OpenScript.OpenScript, declared.parser.Parser.Parser, Scan.ScanState, Scan.ScanState.Outside, Scan.ScanState.Inside, Scripts.ScriptForm, Scripts.open_of}

abbrev pub state_with : List ScriptForm → Option OpenScript → ScanState
state_with scripts None = Outside scripts
state_with scripts (Some script) = Inside scripts script.client (open_of script.lines.items)

abbrev pub state_of : Parser → ScanState
state_of parser = state_with parser.scripts.items parser.begun
