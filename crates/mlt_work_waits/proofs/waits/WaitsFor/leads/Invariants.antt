use Rattle.std.proofs.Common.{◌≡◌, ℕ, List, length}
use Rattle.mlt_work_waits.specs.Waits.{IsAcyclic, LeadsBy, LeadsTo}
use Rattle.mlt_work_waits.proofs.waits.WaitsFor.leads.Given as goal

abbrev pub invariant-loop : goal.invariant-loop
invariant-loop l = record {
  leads : IsAcyclic l.fn.self → LeadsTo l.fn.self l.fn.from l.fn.to → LeadsTo l.fn.self l.at l.fn.to;
  path : List ℕ;
  by : LeadsBy l.fn.self l.fn.from path l.at;
  long : length path ≡ l.counter;
}
