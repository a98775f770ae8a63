use Rattle.mlt_work_waits.{specs.Waits.IsAcyclic, proofs.Youngest.Walked}
use Rattle.mlt_work_waits.proofs.waits.WaitsFor.youngest.Given as goal

-- so many waits were followed, and the youngest of them kept
abbrev pub invariant-loop : goal.invariant-loop
invariant-loop l = (acyclic : IsAcyclic l.fn.self) → Walked l.fn.self acyclic l.fn.wait l.at l.youngest l.counter
