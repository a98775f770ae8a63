use Rattle.std.proofs.Common.{◌≡◌, ◌++◌, length, string_bytes}
use Rattle.mlt_script.specs.{Again.AreReadAgain, Printing.shown}
use Rattle.mlt_script.proofs.printer.push_lines.Given as goal

abbrev pub invariant-loop-rest : goal.invariant-loop-rest
invariant-loop-rest l = record {
  text : string_bytes l.text ++ shown l.rest ≡ string_bytes l.fn.text ++ shown l.lines;
  again : AreReadAgain l.rest → AreReadAgain l.lines;
}

abbrev pub decreases-loop-rest : goal.decreases-loop-rest
decreases-loop-rest l = length l.rest
