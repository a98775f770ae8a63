use Rattle.std.proofs.Common.{◌↔◌, drop, take}
use Rattle.mlt_serve.proofs.Names.{AreOfClients}
use Rattle.mlt_serve.specs.Clients.{AreNumbered}
use Rattle.mlt_serve.proofs.reporting.are_numbered.Given as goal

abbrev pub invariant-loop-outcome : goal.invariant-loop-outcome
invariant-loop-outcome l = record {
  clients : AreOfClients l.limit (take l.outcome-index l.outcomes);
  numbers : AreNumbered l.client l.number (drop l.outcome-index l.outcomes) ↔ AreNumbered 0 0 l.outcomes;
}
