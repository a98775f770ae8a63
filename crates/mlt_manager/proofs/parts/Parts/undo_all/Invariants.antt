use Rattle.std.proofs.Common.{◌≡◌}
use Rattle.mlt_manager.proofs.Names.{IsUndoing, fields_of, GoesOnBack}
use Rattle.mlt_manager.proofs.{Chains.IsUnderWay, UndoingAll.back_left}
use Rattle.mlt_manager.proofs.parts.Parts.undo_all.Given as goal

abbrev pub invariant-loop-answer : goal.invariant-loop-answer
invariant-loop-answer g l = IsUnderWay g.P.Pseudo.bits_of GoesOnBack IsUndoing (fields_of l.fn.self) (fields_of l.self) l.tx
    × (l.self.shared.history.handed ≡ l.fn.self.shared.history.handed)

abbrev pub decreases-loop-answer : goal.decreases-loop-answer
decreases-loop-answer g l = back_left (fields_of l.self) l.tx
