use Rattle.std.proofs.Common.{◌≡◌, ◌++◌, replicate}
use Rattle.mlt_event_text.proofs.parser.push_asked.Given as goal

abbrev pub invariant-loop : goal.invariant-loop
invariant-loop l = l.events.items ≡ l.initial.events.items ++ replicate l.counter l.asked.0
