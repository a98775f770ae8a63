use Rattle.std.proofs.Common.{◌≡◌, ◌≤◌, ◌+◌, [], length}
use Rattle.mlt_text_words.specs.Lines.{lines}
use Rattle.mlt_script.proofs.Names.{state_of, Outside}
use Rattle.mlt_script.specs.Scan.{scan}
use Rattle.mlt_script.proofs.parser.read_lines.Given as goal

abbrev pub invariant-loop-rest : goal.invariant-loop-rest
invariant-loop-rest l = record {
  counted : l.line + length l.rest ≤ length l.text;
  same : scan (state_of l.parser) l.line (lines l.rest) ≡ scan (Outside []) 0 (lines l.text);
}

abbrev pub decreases-loop-rest : goal.decreases-loop-rest
decreases-loop-rest l = length l.rest
