use Rattle.std.proofs.Common.{◌≤◌, ◌+◌, length}
use Rattle.mlt_event_text.specs.Answering.{WentOver}
use Rattle.mlt_event_text.proofs.parser.read_lines.Given as goal

abbrev pub invariant-loop-rest : goal.invariant-loop-rest
invariant-loop-rest l = record {
  counted : l.line + length l.rest ≤ length l.text;
  over : WentOver l.events.items l.line l.text l.rest;
}

abbrev pub decreases-loop-rest : goal.decreases-loop-rest
decreases-loop-rest l = length l.rest
