use Rattle.mlt_order.proofs.{Mixing.finitely_many_mix, UndoLaws.undo, UndoLaws.undo_goes}
use Rattle.mlt_order.proofs.laws.undo_keeps_undone_to.Goals as goal

pub returns-clause-keeps : goal.returns-clause-keeps
returns-clause-keeps g c = undo g.T.Steps.step g.T.Steps.one_start

pub returns-clause-goes : goal.returns-clause-goes
returns-clause-goes g c = λ base state i item before after gains finite.
    let m = (finitely_many_mix before).0 finite in
    undo_goes g.T.Steps.step g.T.Steps.one_start base state i item before after gains m.0 m.1
