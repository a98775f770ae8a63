use Rattle.std.proofs.Common.{◌≡◌}
use Rattle.mlt_manager.proofs.Names.{IsPending, fields_of, LetsGoOn}
use Rattle.mlt_manager.proofs.{Chains.IsUnderWay, RunningOn.on_left}
use Rattle.mlt_manager.proofs.parts.Parts.run_on.Given as goal

abbrev pub invariant-loop-answer : goal.invariant-loop-answer
invariant-loop-answer g l = IsUnderWay g.P.Pseudo.bits_of LetsGoOn IsPending (fields_of l.fn.self) (fields_of l.self) l.tx
    × (l.self.shared.history.handed ≡ l.fn.self.shared.history.handed)

abbrev pub decreases-loop-answer : goal.decreases-loop-answer
decreases-loop-answer g l = on_left (fields_of l.self) l.tx
