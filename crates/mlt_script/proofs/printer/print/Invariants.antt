use Rattle.std.proofs.Common.{◌≡◌, take, string_bytes}
use Rattle.mlt_script.specs.{Again.AreScriptsAgain, Printing.scripts_text}
use Rattle.mlt_script.proofs.printer.print.Given as goal

abbrev pub invariant-loop-script : goal.invariant-loop-script
invariant-loop-script l = record {
  text : string_bytes l.text ≡ scripts_text (take l.script-index l.scripts);
  again : AreScriptsAgain (take l.script-index l.scripts);
}
